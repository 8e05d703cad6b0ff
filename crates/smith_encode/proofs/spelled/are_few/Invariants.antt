use Rattle.smith_encode.proofs.Common.{drop, total, ◌<◌, ◌^◌, ◌≡◌}
use Rattle.std.proofs.Common.{◌+◌}
use Rattle.smith_encode.proofs.spelled.are_few.Given as goal

abbrev pub invariant-loop-run : goal.invariant-loop-run
invariant-loop-run l = record { sum : l.count + total (drop l.run-index l.runs) ≡ total l.runs; few : l.count < 2 ^ 32 }
