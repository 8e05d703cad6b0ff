use Rattle.smith_binary_sections.proofs.Common.{joined_written, on_ok_weaker}
use Rattle.smith_binary_sections.proofs.imports.ImportEncode.encode.Goals as goal

pub returns-clause-writes : goal.returns-clause-writes
returns-clause-writes c = on_ok_weaker c.encode-3.result (λ last. joined_written c.in_ok-encode.ensures.writes
    (joined_written c.in_ok-encode-2.ensures.writes last)) c.encode-3.ensures.writes
