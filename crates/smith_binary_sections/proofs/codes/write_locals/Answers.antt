use Rattle.smith_binary_sections.proofs.Common.{joined_written, on_ok_weaker}
use Rattle.smith_binary_sections.proofs.codes.write_locals.Goals as goal

pub returns-clause-writes : goal.returns-clause-writes
returns-clause-writes c = on_ok_weaker c.write_each.result (λ each. joined_written c.in_ok-write_length.ensures.writes each)
    c.write_each.ensures.writes
