use Rattle.smith_instr_examples.proofs.Common.{narrow_memory, refl, wide_memory}
use Rattle.smith_instr_examples.proofs.instructions.memories.Goals as goal

pub returns-clause-wide_size : goal.returns-clause-wide_size
returns-clause-wide_size c = (wide_memory, refl, (refl, refl))

pub returns-clause-copied_by_the_narrower : goal.returns-clause-copied_by_the_narrower
returns-clause-copied_by_the_narrower c = (wide_memory, narrow_memory, refl, refl, (refl, refl))
