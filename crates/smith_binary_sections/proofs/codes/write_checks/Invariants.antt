use Rattle.smith_binary_sections.proofs.Common.{Is, Leads, length}
use Rattle.smith_binary_sections.specs.Codes.{checks_bytes}
use Rattle.smith_binary_sections.proofs.codes.write_checks.Given as goal

abbrev pub invariant-loop-last : goal.invariant-loop-last
invariant-loop-last l = Leads (λ _. Is (checks_bytes l.rest)) (λ _. Is (checks_bytes l.counters)) l.fn.sink l.sink

abbrev pub decreases-loop-last : goal.decreases-loop-last
decreases-loop-last l = length l.rest
