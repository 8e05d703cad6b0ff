use Rattle.smith_instr_examples.proofs.Common.{funcref, IsRefBelow-refl, managed_types, refl, wide_functions}
use Rattle.smith_instr_examples.proofs.tables.segments.Goals as goal

pub returns-clause-init_of_a_wide_table : goal.returns-clause-init_of_a_wide_table
returns-clause-init_of_a_wide_table c = (wide_functions, funcref, refl, refl, IsRefBelow-refl managed_types funcref, (refl, refl))
