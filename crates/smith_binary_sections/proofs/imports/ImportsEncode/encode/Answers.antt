use Rattle.smith_binary_sections.proofs.Common.{joined_written, on_ok_weaker}
use Rattle.smith_binary_sections.proofs.imports.ImportsEncode.encode.Goals as goal

pub returns-in_ok-write_group_head-in-Compact1-clause-writes : goal.returns-in_ok-write_group_head-in-Compact1-clause-writes
returns-in_ok-write_group_head-in-Compact1-clause-writes c =
    rw c.in-Compact1.is (on_ok_weaker c.write_list.result (joined_written c.in_ok-write_group_head-in-Compact1.ensures.writes)
    (rw c.as_slice.ensures at c.write_list.ensures.writes))

pub returns-in_ok-encode-in-Compact2-clause-writes : goal.returns-in_ok-encode-in-Compact2-clause-writes
returns-in_ok-encode-in-Compact2-clause-writes c =
    rw c.in-Compact2.is (on_ok_weaker c.write_list-in-Compact2.result
    (λ last. joined_written c.in_ok-write_group_head-in-Compact2.ensures.writes
    (joined_written c.in_ok-encode-in-Compact2.ensures.writes last))
    (rw c.as_slice-in-Compact2.ensures at c.write_list-in-Compact2.ensures.writes))
