use Rattle.smith_types_examples.proofs.Common.{None, refl, funcref, table, context_types, IsRefBelow-refl}
use Rattle.smith_types_examples.proofs.segments.element_kinds.Goals as goal

pub returns-clause-into_a_second_table : goal.returns-clause-into_a_second_table
returns-clause-into_a_second_table c =
    (refl, record { table = table funcref 1 None; stands = refl; below = IsRefBelow-refl context_types funcref; offset_valid = refl })
