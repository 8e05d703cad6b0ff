use Rattle.smith_binary_program.proofs.Common.{checked_after, drop, flat_map, IsInstrsWrittenIn, Leads}
use Rattle.smith_binary_program.proofs.fuel_checks.write_each.Given as goal

abbrev pub invariant-loop-instruction : goal.invariant-loop-instruction
invariant-loop-instruction l =
    Leads (λ s. IsInstrsWrittenIn s (flat_map (checked_after l.counters) (drop l.instruction-index l.instructions)))
    (λ s. IsInstrsWrittenIn s (flat_map (checked_after l.counters) l.instructions)) l.fn.sink l.sink
