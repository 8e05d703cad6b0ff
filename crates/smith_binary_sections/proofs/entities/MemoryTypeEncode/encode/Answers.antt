use Rattle.smith_binary_sections.proofs.Common.{joined_written, on_ok_weaker}
use Rattle.smith_binary_sections.proofs.entities.MemoryTypeEncode.encode.Goals as goal

pub returns-clause-writes : goal.returns-clause-writes
returns-clause-writes c =
    on_ok_weaker c.write_page_size.result
    (λ last. joined_written (rw c.limits_byte-flags.ensures at c.in_ok-write_byte.ensures.writes)
    (joined_written c.in_ok-write_range.ensures.writes last))
    c.write_page_size.ensures.writes
