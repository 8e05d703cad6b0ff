use Rattle.smith_instr_examples.proofs.Common.{funcref, functions, IsRefBelow-refl, managed_types, refl, wide_functions}
use Rattle.smith_instr_examples.proofs.bulk.tables.Goals as goal

pub returns-clause-set : goal.returns-clause-set
returns-clause-set c = (functions, refl, (refl, refl))

pub returns-clause-filled : goal.returns-clause-filled
returns-clause-filled c = (wide_functions, refl, (refl, refl))

pub returns-clause-copied : goal.returns-clause-copied
returns-clause-copied c = (functions, wide_functions, refl, refl, IsRefBelow-refl managed_types funcref, (refl, refl))

pub returns-clause-initialised : goal.returns-clause-initialised
returns-clause-initialised c = (functions, funcref, refl, refl, IsRefBelow-refl managed_types funcref, (refl, refl))

pub returns-clause-wide_size : goal.returns-clause-wide_size
returns-clause-wide_size c = (wide_functions, refl, (refl, refl))
