use Rattle.smith_program.proofs.Common.{flat_map, take, ◌++◌, ◌≡◌}
use Rattle.smith_program.specs.References.{named_by_table}
use Rattle.smith_program.proofs.references.push_of_tables.Given as goal

abbrev pub invariant-loop-table : goal.invariant-loop-table
invariant-loop-table l = l.named ≡ l.fn.named ++ flat_map named_by_table (take l.table-index l.tables)
