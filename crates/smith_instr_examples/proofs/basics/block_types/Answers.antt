use Rattle.smith_instr_examples.proofs.Common.{refl, narrows}
use Rattle.smith_instr_examples.proofs.ManagedExamples.{narrows_there}
use Rattle.smith_instr_examples.proofs.basics.block_types.Goals as goal

pub returns-clause-function : goal.returns-clause-function
returns-clause-function c = (narrows, narrows_there, refl, refl)
