use Rattle.smith_binary_sections.proofs.Common.{joined_written, on_ok_weaker}
use Rattle.smith_binary_sections.proofs.instructions.write_prefixed_index.Goals as goal

pub returns-clause-writes : goal.returns-clause-writes
returns-clause-writes c = on_ok_weaker c.write_u32.result (joined_written c.in_ok-write_prefixed.ensures.writes) c.write_u32.ensures.writes
