use Rattle.smith_draw_consts.proofs.Common.{drop, ◌≡◌}
use Rattle.smith_draw_consts.specs.ConstOffers.{past, each_from, function_offers}
use Rattle.smith_draw_consts.specs.ConstScopes.{context_of}
use Rattle.smith_draw_consts.proofs.offers.past_functions_from.Given as goal

abbrev pub invariant-loop-index : goal.invariant-loop-index
invariant-loop-index l = past (each_from (function_offers (context_of l.scope) l.wanted) l.index (drop l.index (context_of l.scope).funcs))
    l.rest ≡ past (each_from (function_offers (context_of l.fn.scope) l.fn.wanted) l.fn.first
    (drop l.fn.first (context_of l.fn.scope).funcs)) l.fn.place
