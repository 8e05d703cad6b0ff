use Rattle.std.specs.Prelude.{take}
use Rattle.std.specs.List.{Any}
use Rattle.smith_module_rules.specs.CollectedValues.{AddsNumbers}
use Rattle.smith_module_rules.specs.InterestingValues.{IsNearTable}
use Rattle.smith_module_rules.proofs.interesting_values.limits.push_near_tables.Given as goal

abbrev pub invariant-loop-table : goal.invariant-loop-table
invariant-loop-table l = AddsNumbers (λ n. Any (IsNearTable n) (take l.table-index l.tables)) l.initial.numbers l.numbers
