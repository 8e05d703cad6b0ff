use Rattle.smith_draw_shape_imports.proofs.Common.{flat_map, take, ◌≡◌}
use Rattle.smith_draw_shape_imports.specs.KeptImports.{kept_of}
use Rattle.smith_draw_shape_imports.proofs.module_shape.kept_groups_of.Given as goal

abbrev pub invariant-loop-group : goal.invariant-loop-group
invariant-loop-group l = l.groups ≡ flat_map (kept_of l.config.compact_imports_enabled) (take l.group-index l.shape.imports)
