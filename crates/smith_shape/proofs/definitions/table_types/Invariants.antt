use Rattle.std.proofs.Common.{◌≡◌, map, take}
use Rattle.smith_shape.specs.ModuleShapes.{table_type}
use Rattle.smith_shape.proofs.definitions.table_types.Given as goal

abbrev pub invariant-loop-table : goal.invariant-loop-table
invariant-loop-table l = l.made ≡ map table_type (take l.table-index l.tables)
