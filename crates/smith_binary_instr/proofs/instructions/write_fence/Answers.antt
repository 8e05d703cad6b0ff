use Rattle.smith_binary_instr.proofs.Common.{joined_written, on_ok_weaker}
use Rattle.smith_binary_instr.proofs.instructions.write_fence.Goals as goal

pub returns-clause-writes : goal.returns-clause-writes
returns-clause-writes c = on_ok_weaker c.write_byte.result (joined_written c.in_ok-write_prefixed.ensures.writes)
    c.write_byte.ensures.writes
