use Rattle.smith_draw_shape_imports.proofs.Common.{drop, flattened, length, ◌+◌, ◌≡◌}
use Rattle.smith_draw_shape_imports.proofs.module_shape.count_imports.Given as goal

abbrev pub invariant-loop-group : goal.invariant-loop-group
invariant-loop-group l = l.count + length (flattened (drop l.group-index l.groups)) ≡ length (flattened l.groups)
