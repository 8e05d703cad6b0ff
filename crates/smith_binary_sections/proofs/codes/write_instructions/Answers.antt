use Rattle.smith_binary_sections.proofs.Common.{is_joined, on_ok_weaker}
use Rattle.smith_binary_sections.proofs.codes.write_instructions.Goals as goal

pub returns-in_ok-write_checks-in-Unreachable-clause-writes : goal.returns-in_ok-write_checks-in-Unreachable-clause-writes
returns-in_ok-write_checks-in-Unreachable-clause-writes c =
    rw c.in-Unreachable.is (on_ok_weaker c.write_bytes.result (is_joined c.in_ok-write_checks-in-Unreachable.ensures.writes)
    c.write_bytes.ensures.writes)
