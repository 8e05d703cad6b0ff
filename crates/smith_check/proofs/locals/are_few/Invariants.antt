use Rattle.smith_check.proofs.Common.{total, ◌+◌, ◌≡◌, ◌≤◌}
use Rattle.std.proofs.Common.{drop}
use Rattle.smith_check.proofs.locals.are_few.Given as goal

abbrev pub invariant-loop-run : goal.invariant-loop-run
invariant-loop-run l = record { sum : l.count + total (drop l.run-index l.runs) ≡ l.fn.params + total l.runs; few : l.count ≤ 50000 }
