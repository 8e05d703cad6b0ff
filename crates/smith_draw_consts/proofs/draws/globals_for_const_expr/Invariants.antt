use Rattle.smith_draw_consts.proofs.Common.{drop, GlobalType, is_val_below, not, ◌&&◌, ◌++◌, ◌≡◌}
use Rattle.smith_draw_consts.specs.ConstOffers.{each_from, offered_if, readable_globals}
use Rattle.smith_draw_consts.specs.ConstScopes.{seen_by}
use Rattle.smith_draw_consts.proofs.draws.globals_for_const_expr.Given as goal

abbrev pub invariant-loop-index : goal.invariant-loop-index
invariant-loop-index l =
    l.readable ++ each_from
    (λ index (global : GlobalType). offered_if (not global.mutable && is_val_below l.spaces.types.now.types global.val_type l.wanted) index)
    l.index (drop l.index l.globals) ≡ readable_globals (seen_by l.config l.spaces l.allow_defined) l.wanted
