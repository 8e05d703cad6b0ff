use Rattle.smith_draw_consts.proofs.Common.{drop, ◌≡◌}
use Rattle.smith_draw_consts.specs.ConstOffers.{past, each_from, ways_by}
use Rattle.smith_draw_consts.specs.ConstScopes.{context_of}
use Rattle.smith_draw_consts.proofs.offers.past_types_from.Given as goal

abbrev pub invariant-loop-index : goal.invariant-loop-index
invariant-loop-index l = past (each_from (ways_by (context_of l.scope) l.wanted l.fuel l.arrays) l.index (drop l.index l.types)) l.rest
    ≡ past (each_from (ways_by (context_of l.fn.scope) l.fn.wanted l.fn.fuel l.fn.arrays) l.fn.first
    (drop l.fn.first (context_of l.fn.scope).types)) l.fn.place
