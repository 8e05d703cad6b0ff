use Rattle.smith_check_references.proofs.Common.{AreFit, drop, field_values}
use Rattle.std.proofs.Common.{◌↔◌}
use Rattle.smith_check_references.proofs.structs.fields_fit.Given as goal

abbrev pub invariant-loop-i : goal.invariant-loop-i
invariant-loop-i l = AreFit l.types.types (drop l.i l.slots) (field_values (drop l.i l.fields)) ↔ AreFit l.types.types l.slots
    (field_values l.fields)
