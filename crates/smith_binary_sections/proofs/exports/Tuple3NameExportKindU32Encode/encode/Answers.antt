use Rattle.smith_binary_sections.proofs.Common.{joined_written, on_ok_weaker}
use Rattle.smith_binary_sections.proofs.exports.Tuple3NameExportKindU32Encode.encode.Goals as goal

pub returns-clause-writes : goal.returns-clause-writes
returns-clause-writes c =
    on_ok_weaker c.write_u32.result
    (λ last. joined_written (rw c.as_str.ensures at c.in_ok-write_name.ensures.writes)
    (joined_written (rw c.kind_byte.ensures at c.in_ok-write_byte.ensures.writes) last))
    c.write_u32.ensures.writes
