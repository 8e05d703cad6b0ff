use Rattle.smith_draw_shape_imports.proofs.Common.{flattened, take, ◌≡◌}
use Rattle.smith_draw_shape_imports.proofs.flat_imports.flat_imports.Given as goal

abbrev pub invariant-loop-group : goal.invariant-loop-group
invariant-loop-group l = l.flat ≡ flattened (take l.group-index l.groups)
