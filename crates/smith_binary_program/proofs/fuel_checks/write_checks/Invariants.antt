use Rattle.smith_binary_program.proofs.Common.{checks_of, IsInstrsWrittenIn, Leads, length}
use Rattle.smith_binary_program.proofs.fuel_checks.write_checks.Given as goal

abbrev pub invariant-loop-last : goal.invariant-loop-last
invariant-loop-last l = Leads (λ s. IsInstrsWrittenIn s (checks_of l.rest)) (λ s. IsInstrsWrittenIn s (checks_of l.counters)) l.fn.sink
    l.sink

abbrev pub decreases-loop-last : goal.decreases-loop-last
decreases-loop-last l = length l.rest
