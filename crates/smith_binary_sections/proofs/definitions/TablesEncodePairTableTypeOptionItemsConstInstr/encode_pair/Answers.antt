use Rattle.smith_binary_sections.proofs.Common.{joined_written, on_ok_weaker}
use Rattle.smith_binary_sections.proofs.definitions.TablesEncodePairTableTypeOptionItemsConstInstr.encode_pair.Goals as goal

pub returns-in_ok-encode-in-Some-clause-writes : goal.returns-in_ok-encode-in-Some-clause-writes
returns-in_ok-encode-in-Some-clause-writes c =
    rw c.in-Some.is (on_ok_weaker c.encode-in-Some-2.result (λ last. joined_written c.in_ok-write_bytes-in-Some.ensures.writes
    (joined_written c.in_ok-encode-in-Some.ensures.writes last)) c.encode-in-Some-2.ensures.writes)

pub returns-in-None-clause-writes : goal.returns-in-None-clause-writes
returns-in-None-clause-writes c = rw c.in-None.is c.encode.ensures.writes
