use Rattle.smith_check.proofs.Common.{flat_map, take, ◌++◌, ◌≡◌}
use Rattle.smith_decode.specs.declared.definitions.TableDefinition.{TableDefinition}
use Rattle.smith_check.specs.References.{named_in}
use Rattle.smith_check.proofs.references.push_of_tables.Given as goal

abbrev pub invariant-loop-table : goal.invariant-loop-table
invariant-loop-table l = l.named ≡ l.fn.named ++ flat_map (λ (table : TableDefinition). named_in table.initial)
    (take l.table-index l.tables)
