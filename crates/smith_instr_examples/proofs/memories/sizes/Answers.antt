use Rattle.smith_instr_examples.proofs.Common.{narrow_memory, refl}
use Rattle.smith_instr_examples.proofs.memories.sizes.Goals as goal

pub returns-clause-size : goal.returns-clause-size
returns-clause-size c = (narrow_memory, refl, (refl, refl))

pub returns-clause-grow : goal.returns-clause-grow
returns-clause-grow c = (narrow_memory, refl, (refl, refl))
