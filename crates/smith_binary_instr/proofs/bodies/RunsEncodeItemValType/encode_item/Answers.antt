use Rattle.smith_binary_instr.proofs.Common.{joined_written, on_ok_weaker}
use Rattle.smith_binary_instr.proofs.bodies.RunsEncodeItemValType.encode_item.Goals as goal

pub returns-clause-writes : goal.returns-clause-writes
returns-clause-writes c = on_ok_weaker c.encode.result (joined_written c.in_ok-write_u32.ensures.writes) c.encode.ensures.writes
