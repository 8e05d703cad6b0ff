use Rattle.smith_draw_consts.proofs.Common.{drop, take, ◌≡◌}
use Rattle.smith_draw_consts.specs.ConstOffers.{past, each_from, global_offers}
use Rattle.smith_draw_consts.specs.ConstScopes.{context_of}
use Rattle.smith_draw_consts.proofs.offers.past_globals_from.Given as goal

abbrev pub invariant-loop-index : goal.invariant-loop-index
invariant-loop-index l =
    past (each_from (global_offers (context_of l.scope) l.wanted) l.index
    (drop l.index (take l.scope.visible (context_of l.scope).globals))) l.rest
    ≡ past (each_from (global_offers (context_of l.fn.scope) l.fn.wanted) l.fn.first
    (drop l.fn.first (take l.fn.scope.visible (context_of l.fn.scope).globals))) l.fn.place
