use Rattle.smith_binary_instr.proofs.Common.{joined_written, on_ok_weaker}
use Rattle.smith_binary_instr.proofs.vector.write_on_lane.Goals as goal

pub returns-clause-writes : goal.returns-clause-writes
returns-clause-writes c = on_ok_weaker c.write_byte.result (joined_written c.in_ok-write_numbered.ensures.writes)
    c.write_byte.ensures.writes
