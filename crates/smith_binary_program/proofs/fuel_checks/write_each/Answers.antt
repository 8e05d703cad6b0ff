use Rattle.smith_binary_program.proofs.CountedLemmas.{checked_step, checked_end}
use Rattle.smith_binary_program.proofs.fuel_checks.write_each.Goals as goal

pub loop-instruction-preserved : goal.loop-instruction-preserved
loop-instruction-preserved c =
    checked_step c.args.counters.now c.loop-instruction.instruction-index c.args.instructions.now _ _ c.loop-instruction-test.true
    c.instruction-item.is c.loop-instruction.invariant c.in_ok-write_checked.ensures.writes

pub returns-clause-writes : goal.returns-clause-writes
returns-clause-writes c = checked_end c.args.counters.now c.loop-instruction.instruction-index c.args.instructions.now
    c.loop-instruction-test.false c.loop-instruction.invariant
