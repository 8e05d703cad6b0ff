use Rattle.smith_instr_examples.proofs.Common.{[], refl, arith, constant, variable, funcref, I8, Val, Ref}
use Rattle.smith_instr_examples.proofs.ManagedExamples.{bytes_there, references_there, element_segment}
use Rattle.smith_instr_examples.proofs.creations.arrays_from_segments.Goals as goal

pub returns-clause-of_data : goal.returns-clause-of_data
returns-clause-of_data c = (constant I8, bytes_there, tt, omega arith, (refl, refl))

pub returns-clause-of_elements : goal.returns-clause-of_elements
returns-clause-of_elements c = (variable (Val (Ref funcref)), references_there, element_segment [] [], (refl, refl))
