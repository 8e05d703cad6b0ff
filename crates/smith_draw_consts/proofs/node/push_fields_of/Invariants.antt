use Rattle.smith_draw_consts.proofs.Common.{drop, field_values, fields_of, map, ◌++◌, ◌≡◌}
use Rattle.smith_draw_consts.specs.declared.node.Operand.TheVariants.{Value}
use Rattle.smith_draw_consts.proofs.node.push_fields_of.Given as goal

abbrev pub invariant-loop-field : goal.invariant-loop-field
invariant-loop-field l = l.operands ++ map Value (field_values (drop l.field-index l.field-items)) ≡ l.fn.operands ++ map Value
    (field_values (fields_of l.fn.inner))
