use Rattle.smith_check_module.proofs.Common.{take, ◌≡◌}
use Rattle.smith_types.specs.Expressions.{field_values}
use Rattle.smith_check_module.proofs.aggregates.field_values.Given as goal

abbrev pub invariant-loop-field : goal.invariant-loop-field
invariant-loop-field l = l.made ≡ field_values (take l.field-index l.fields)
