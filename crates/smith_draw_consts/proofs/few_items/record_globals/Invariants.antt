use Rattle.smith_draw_consts.proofs.Common.{length, ◌≡◌}
use Rattle.smith_draw_consts.specs.ConstScopes.{context_of}
use Rattle.smith_draw_consts.specs.KeptOffers.{AreRecorded, readable}
use Rattle.smith_draw_consts.proofs.few_items.record_globals.Given as goal

abbrev pub invariant-loop-index : goal.invariant-loop-index
invariant-loop-index l = record {
  read : AreRecorded (λ index global. readable global) (context_of l.scope).globals l.kinds.items;
  here : length l.kinds.items ≡ l.index;
}
