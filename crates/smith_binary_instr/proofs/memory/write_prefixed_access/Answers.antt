use Rattle.smith_binary_instr.proofs.Common.{joined_written, on_ok_weaker}
use Rattle.smith_binary_instr.proofs.memory.write_prefixed_access.Goals as goal

pub returns-clause-writes : goal.returns-clause-writes
returns-clause-writes c = on_ok_weaker c.write_mem_arg.result (joined_written c.in_ok-write_prefixed.ensures.writes)
    c.write_mem_arg.ensures.writes
