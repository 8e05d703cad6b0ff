use Rattle.smith_instr_examples.proofs.Common.{functions, refl, wide_functions}
use Rattle.smith_instr_examples.proofs.tables.sizes.Goals as goal

pub returns-clause-size : goal.returns-clause-size
returns-clause-size c = (functions, refl, (refl, refl))

pub returns-clause-grow : goal.returns-clause-grow
returns-clause-grow c = (functions, refl, (refl, refl))

pub returns-clause-grow_of_a_wide_table : goal.returns-clause-grow_of_a_wide_table
returns-clause-grow_of_a_wide_table c = (wide_functions, refl, (refl, refl))
