use Rattle.smith_decode.proofs.Common.{drop, ◌+◌, ◌<◌, ◌^◌, ◌≡◌}
use Rattle.smith_decode.specs.BodyReadings.{total}
use Rattle.smith_decode.proofs.bodies.are_few.Given as goal

abbrev pub invariant-loop-run : goal.invariant-loop-run
invariant-loop-run l = record { sum : l.count + total (drop l.run-index l.runs) ≡ total l.runs; few : l.count < 2 ^ 32 }
