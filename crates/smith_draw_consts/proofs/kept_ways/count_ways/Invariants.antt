use Rattle.smith_draw_consts.proofs.Common.{◌*◌, ◌+◌, ◌≡◌, ◌≤◌}
use Rattle.smith_draw_consts.specs.ConstOffers.{ways_by}
use Rattle.smith_draw_consts.specs.ConstScopes.{context_of}
use Rattle.smith_draw_consts.specs.KeptOffers.{offered_before}
use Rattle.smith_draw_consts.proofs.kept_ways.count_ways.Given as goal

abbrev pub invariant-loop-index : goal.invariant-loop-index
invariant-loop-index l = record {
  counted : offered_before (ways_by (context_of l.scope) l.wanted l.fuel l.arrays) (context_of l.scope).types l.index ≡ offered_before
      (ways_by (context_of l.scope) l.wanted l.fuel l.arrays) (context_of l.scope).types l.first + l.count;
  few : l.count + 3 * l.first ≤ 3 * l.index;
}
