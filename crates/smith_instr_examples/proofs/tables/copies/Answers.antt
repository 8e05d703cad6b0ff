use Rattle.smith_instr_examples.proofs.Common.{funcref, functions, IsRefBelow-refl, managed_types, refl, wide_functions}
use Rattle.smith_instr_examples.proofs.tables.copies.Goals as goal

pub returns-clause-from_narrow_to_narrow : goal.returns-clause-from_narrow_to_narrow
returns-clause-from_narrow_to_narrow c = (functions, functions, refl, refl, IsRefBelow-refl managed_types funcref, (refl, refl))

pub returns-clause-from_wide_to_narrow : goal.returns-clause-from_wide_to_narrow
returns-clause-from_wide_to_narrow c = (functions, wide_functions, refl, refl, IsRefBelow-refl managed_types funcref, (refl, refl))

pub returns-clause-from_narrow_to_wide : goal.returns-clause-from_narrow_to_wide
returns-clause-from_narrow_to_wide c = (wide_functions, functions, refl, refl, IsRefBelow-refl managed_types funcref, (refl, refl))

pub returns-clause-from_wide_to_wide : goal.returns-clause-from_wide_to_wide
returns-clause-from_wide_to_wide c = (wide_functions, wide_functions, refl, refl, IsRefBelow-refl managed_types funcref, (refl, refl))
