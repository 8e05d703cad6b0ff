use Rattle.smith_binary_sections.proofs.Common.{is_joined, on_ok_weaker}
use Rattle.smith_binary_sections.proofs.codes.write_check.Goals as goal

pub returns-clause-writes : goal.returns-clause-writes
returns-clause-writes c =
    on_ok_weaker c.write_indexed-3.result
    (is_joined
    (is_joined (is_joined (is_joined c.in_ok-write_indexed.ensures.writes c.in_ok-write_bytes.ensures.writes)
    c.in_ok-write_indexed-2.ensures.writes) c.in_ok-write_bytes-2.ensures.writes))
    c.write_indexed-3.ensures.writes
