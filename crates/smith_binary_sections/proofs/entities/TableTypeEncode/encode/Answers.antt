use Rattle.smith_binary_sections.proofs.Common.{joined_written, on_ok_weaker}
use Rattle.smith_binary_sections.proofs.entities.TableTypeEncode.encode.Goals as goal

pub returns-clause-writes : goal.returns-clause-writes
returns-clause-writes c =
    on_ok_weaker c.write_range.result
    (λ last. joined_written c.in_ok-encode.ensures.writes (joined_written (rw c.limits_byte.ensures at c.in_ok-write_byte.ensures.writes)
    last))
    c.write_range.ensures.writes
