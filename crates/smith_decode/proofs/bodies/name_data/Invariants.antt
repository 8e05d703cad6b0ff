use Rattle.smith_decode.proofs.Common.{drop, ◌≡◌}
use Rattle.smith_decode.specs.BodyReadings.{name_data}
use Rattle.smith_decode.proofs.bodies.name_data.Given as goal

abbrev pub invariant-loop-body : goal.invariant-loop-body
invariant-loop-body l = name_data (drop l.body-index l.bodies) ≡ name_data l.bodies
