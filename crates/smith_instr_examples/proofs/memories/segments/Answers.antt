use Rattle.smith_instr_examples.proofs.Common.{arith, narrow_memory, refl}
use Rattle.smith_instr_examples.proofs.memories.segments.Goals as goal

pub returns-clause-init : goal.returns-clause-init
returns-clause-init c = (narrow_memory, refl, omega arith, (refl, refl))
