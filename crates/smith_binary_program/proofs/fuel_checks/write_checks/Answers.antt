use Rattle.smith_binary_program.proofs.CountedLemmas.{checks_step, checks_end}
use Rattle.smith_binary_program.proofs.fuel_checks.write_checks.Goals as goal

pub loop-last-preserved : goal.loop-last-preserved
loop-last-preserved c = checks_step c.loop-last.rest.now c.in-Some.before.now c.in-Some.last.now c.in-Some.ensures.cases.0
    c.loop-last.invariant c.in_ok-write_check.ensures.writes

pub returns-clause-writes : goal.returns-clause-writes
returns-clause-writes c = checks_end c.loop-last.rest.now c.in_default.ensures.cases c.loop-last.invariant
