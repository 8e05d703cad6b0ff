use Rattle.smith_draw_contents.proofs.Common.{drop, get_or, places_from, ◌≡◌}
use Rattle.smith_draw_contents.specs.Exporting.{is_func_below}
use Rattle.smith_draw_contents.proofs.export_kinds.func_at.Given as goal

abbrev pub invariant-loop-index : goal.invariant-loop-index
invariant-loop-index l = get_or (places_from (is_func_below l.types.types l.left) l.index (drop l.index l.funcs)) l.place 0
    ≡ get_or (places_from (is_func_below l.types.types l.left) 0 l.fn.funcs) l.fn.place 0
