use Rattle.smith_binary_sections.proofs.Common.{joined_written, on_ok_weaker}
use Rattle.smith_binary_sections.proofs.entities.write_range.Goals as goal

pub returns-in-Some-clause-writes : goal.returns-in-Some-clause-writes
returns-in-Some-clause-writes c = rw c.in-Some.is (on_ok_weaker c.write_u64-in-Some.result (joined_written c.in_ok-write_u64.ensures.writes)
    c.write_u64-in-Some.ensures.writes)
