use Rattle.smith_instr_examples.proofs.Common.{refl, constant, variable, I8, Val, I32}
use Rattle.smith_instr_examples.proofs.ManagedExamples.{numbers_there, bytes_there}
use Rattle.smith_instr_examples.proofs.elements.read.Goals as goal

pub returns-clause-unpacked : goal.returns-clause-unpacked
returns-clause-unpacked c = (variable (Val I32), numbers_there, tt, (refl, refl))

pub returns-clause-signed : goal.returns-clause-signed
returns-clause-signed c = (constant I8, bytes_there, tt, (refl, refl))

pub returns-clause-unsigned : goal.returns-clause-unsigned
returns-clause-unsigned c = (constant I8, bytes_there, tt, (refl, refl))
