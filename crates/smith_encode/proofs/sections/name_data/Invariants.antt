use Rattle.smith_encode.proofs.Common.{drop, name_data, ◌≡◌}
use Rattle.smith_encode.proofs.sections.name_data.Given as goal

abbrev pub invariant-loop-body : goal.invariant-loop-body
invariant-loop-body l = name_data (drop l.body-index l.bodies) ≡ name_data l.bodies
