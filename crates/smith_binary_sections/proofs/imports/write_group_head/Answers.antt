use Rattle.smith_binary_sections.proofs.Common.{joined_written, on_ok_weaker}
use Rattle.smith_binary_sections.proofs.imports.write_group_head.Goals as goal

pub returns-clause-writes : goal.returns-clause-writes
returns-clause-writes c =
    on_ok_weaker c.write_byte.result (λ last. joined_written c.in_ok-encode.ensures.writes
    (joined_written c.in_ok-write_name.ensures.writes last)) c.write_byte.ensures.writes
