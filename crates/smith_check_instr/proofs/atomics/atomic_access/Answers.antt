use Rattle.smith_check_instr.proofs.Common.{arith}
use Rattle.smith_check_instr.proofs.AtomicLemmas.{aligned_exactly}
use Rattle.smith_check_instr.proofs.atomics.atomic_access.Goals as goal

pub returns : goal.returns
returns c = aligned_exactly c.args.memories.now c.args.at c.args.log2_bytes c.access.result (omega arith) c.access.ensures
