use Rattle.smith_instr_examples.proofs.Common.{refl, narrows}
use Rattle.smith_instr_examples.proofs.ManagedExamples.{narrows_there}
use Rattle.smith_instr_examples.proofs.calls.by_reference.Goals as goal

pub returns-clause-of_its_type : goal.returns-clause-of_its_type
returns-clause-of_its_type c = (narrows, narrows_there, (refl, refl))
