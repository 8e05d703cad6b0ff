use Rattle.smith_instr_examples.proofs.Common.{[], refl, arith, variable, funcref, Val, I32, Ref}
use Rattle.smith_instr_examples.proofs.ManagedExamples.{numbers_there, references_there, element_segment}
use Rattle.smith_instr_examples.proofs.elements.initialised.Goals as goal

pub returns-clause-of_data : goal.returns-clause-of_data
returns-clause-of_data c = (variable (Val I32), numbers_there, refl, tt, omega arith, (refl, refl))

pub returns-clause-of_elements : goal.returns-clause-of_elements
returns-clause-of_elements c = (variable (Val (Ref funcref)), references_there, refl, element_segment [] [], (refl, refl))
