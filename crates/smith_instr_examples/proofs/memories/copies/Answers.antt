use Rattle.smith_instr_examples.proofs.Common.{narrow_memory, refl, wide_memory}
use Rattle.smith_instr_examples.proofs.memories.copies.Goals as goal

pub returns-clause-from_narrow_to_narrow : goal.returns-clause-from_narrow_to_narrow
returns-clause-from_narrow_to_narrow c = (narrow_memory, narrow_memory, refl, refl, (refl, refl))

pub returns-clause-from_wide_to_narrow : goal.returns-clause-from_wide_to_narrow
returns-clause-from_wide_to_narrow c = (narrow_memory, wide_memory, refl, refl, (refl, refl))

pub returns-clause-from_narrow_to_wide : goal.returns-clause-from_narrow_to_wide
returns-clause-from_narrow_to_wide c = (wide_memory, narrow_memory, refl, refl, (refl, refl))

pub returns-clause-from_wide_to_wide : goal.returns-clause-from_wide_to_wide
returns-clause-from_wide_to_wide c = (wide_memory, wide_memory, refl, refl, (refl, refl))
