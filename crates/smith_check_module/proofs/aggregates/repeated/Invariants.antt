use Rattle.smith_check_module.proofs.Common.{replicate, ◌≡◌}
use Rattle.smith_check_module.proofs.aggregates.repeated.Given as goal

abbrev pub invariant-loop : goal.invariant-loop
invariant-loop l = l.made ≡ replicate l.counter l.value
