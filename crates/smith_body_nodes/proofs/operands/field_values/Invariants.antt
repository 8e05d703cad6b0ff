use Rattle.smith_body_nodes.proofs.Common.{◌≡◌}
use Rattle.std.proofs.Common.{take}
use Rattle.smith_types.specs.Expressions.{field_values}
use Rattle.smith_body_nodes.proofs.operands.field_values.Given as goal

abbrev pub invariant-loop-index : goal.invariant-loop-index
invariant-loop-index l = l.values ≡ field_values (take l.index l.fields)
