use Rattle.smith_binary_sections.proofs.Common.{joined_written, on_ok_weaker}
use Rattle.smith_binary_sections.proofs.types.CompositeInnerTypeEncode.encode.Goals as goal

pub returns-in_ok-write_byte-in-Func-clause-writes : goal.returns-in_ok-write_byte-in-Func-clause-writes
returns-in_ok-write_byte-in-Func-clause-writes c =
    rw c.in-Func.is (on_ok_weaker c.encode-in-Func.result (joined_written c.in_ok-write_byte-in-Func.ensures.writes)
    c.encode-in-Func.ensures.writes)
