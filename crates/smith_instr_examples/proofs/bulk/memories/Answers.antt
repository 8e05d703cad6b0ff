use Rattle.smith_instr_examples.proofs.Common.{arith, refl, wide_memory}
use Rattle.smith_instr_examples.proofs.bulk.memories.Goals as goal

pub returns-clause-grown : goal.returns-clause-grown
returns-clause-grown c = (wide_memory, refl, (refl, refl))

pub returns-clause-filled : goal.returns-clause-filled
returns-clause-filled c = (wide_memory, refl, (refl, refl))

pub returns-clause-initialised : goal.returns-clause-initialised
returns-clause-initialised c = (wide_memory, refl, omega arith, (refl, refl))
