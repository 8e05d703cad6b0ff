use Rattle.smith_binary_program.proofs.Common.{on_ok_weaker}
use Rattle.smith_binary_program.proofs.CountedLemmas.{instrs_written}
use Rattle.smith_binary_program.proofs.fuel_checks.write_counted.Goals as goal

pub returns-clause-writes : goal.returns-clause-writes
returns-clause-writes c = on_ok_weaker c.write_each.result (instrs_written _ _ c.in_ok-write_checks.ensures.writes)
    c.write_each.ensures.writes
