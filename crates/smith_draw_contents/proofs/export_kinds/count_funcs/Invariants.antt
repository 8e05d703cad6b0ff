use Rattle.smith_draw_contents.proofs.Common.{drop, length, places_from, ◌+◌, ◌≡◌, ◌≤◌}
use Rattle.smith_draw_contents.specs.Exporting.{is_func_below}
use Rattle.smith_draw_contents.proofs.export_kinds.count_funcs.Given as goal

abbrev pub invariant-loop-func : goal.invariant-loop-func
invariant-loop-func l = record {
  few : l.count ≤ l.func-index;
  so_far : l.count + length (places_from (is_func_below l.types.types l.left) l.func-index (drop l.func-index l.funcs))
      ≡ length (places_from (is_func_below l.types.types l.left) 0 l.funcs);
}
