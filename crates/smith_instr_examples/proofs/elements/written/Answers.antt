use Rattle.smith_instr_examples.proofs.Common.{refl, variable, funcref, Val, I32, Ref}
use Rattle.smith_instr_examples.proofs.ManagedExamples.{numbers_there, references_there}
use Rattle.smith_instr_examples.proofs.elements.written.Goals as goal

pub returns-clause-variable_one : goal.returns-clause-variable_one
returns-clause-variable_one c = (variable (Val (Ref funcref)), references_there, refl, (refl, refl))

pub returns-clause-filled : goal.returns-clause-filled
returns-clause-filled c = (variable (Val I32), numbers_there, refl, (refl, refl))
