use Rattle.smith_draw_contents.proofs.Common.{drop, get_or, is_start_type, places_from, ◌≡◌}
use Rattle.smith_draw_contents.specs.Start.{start_funcs}
use Rattle.smith_draw_contents.proofs.start.start_func_at.Given as goal

abbrev pub invariant-loop-index : goal.invariant-loop-index
invariant-loop-index l = get_or (places_from (is_start_type l.types) l.index (drop l.index l.funcs)) l.place 0
    ≡ get_or (start_funcs l.types l.fn.funcs) l.fn.place 0
