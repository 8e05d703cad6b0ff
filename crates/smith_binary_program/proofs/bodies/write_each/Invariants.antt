use Rattle.smith_binary_program.proofs.Common.{drop, Each, Leads, zip}
use Rattle.smith_binary_program.specs.Bodies.{IsBodyOfIn}
use Rattle.smith_binary_program.proofs.bodies.write_each.Given as goal

abbrev pub invariant-loop-place : goal.invariant-loop-place
invariant-loop-place l =
    Leads (λ s. Each (IsBodyOfIn s l.counters) (drop l.place (zip l.codes l.bodies)))
    (λ s. Each (IsBodyOfIn s l.counters) (zip l.codes l.bodies)) l.fn.sink l.sink
