use Rattle.smith_instr_examples.proofs.Common.{refl, constant, variable, funcref, Val, Ref, some_func}
use Rattle.smith_instr_examples.proofs.ManagedExamples.{references_there, functions_there}
use Rattle.smith_instr_examples.proofs.creations.arrays.Goals as goal

pub returns-clause-of_a_value : goal.returns-clause-of_a_value
returns-clause-of_a_value c = (variable (Val (Ref funcref)), references_there, (refl, refl))

pub returns-clause-by_default : goal.returns-clause-by_default
returns-clause-by_default c = (variable (Val (Ref funcref)), references_there, refl, (refl, refl))

pub returns-clause-of_two : goal.returns-clause-of_two
returns-clause-of_two c = (constant (Val some_func), functions_there, (refl, refl))
