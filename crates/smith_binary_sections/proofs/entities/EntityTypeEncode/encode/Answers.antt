use Rattle.smith_binary_sections.proofs.Common.{joined_written, on_ok_weaker}
use Rattle.smith_binary_sections.proofs.entities.EntityTypeEncode.encode.Goals as goal

pub returns-in_ok-write_byte-in-Memory-clause-writes : goal.returns-in_ok-write_byte-in-Memory-clause-writes
returns-in_ok-write_byte-in-Memory-clause-writes c =
    rw c.in-Memory.is (on_ok_weaker c.encode-in-Memory.result (joined_written c.in_ok-write_byte-in-Memory.ensures.writes)
    c.encode-in-Memory.ensures.writes)
