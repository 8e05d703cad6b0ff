use Rattle.smith_binary_sections.proofs.Common.{is_joined, on_ok_weaker}
use Rattle.smith_binary_sections.proofs.codes.write_indexed.Goals as goal

pub returns-clause-writes : goal.returns-clause-writes
returns-clause-writes c = on_ok_weaker c.write_shortest.result (is_joined c.in_ok-write_byte.ensures.writes) c.write_shortest.ensures.writes
