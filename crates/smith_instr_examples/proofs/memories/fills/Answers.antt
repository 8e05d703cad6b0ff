use Rattle.smith_instr_examples.proofs.Common.{narrow_memory, refl}
use Rattle.smith_instr_examples.proofs.memories.fills.Goals as goal

pub returns-clause-fill : goal.returns-clause-fill
returns-clause-fill c = (narrow_memory, refl, (refl, refl))
