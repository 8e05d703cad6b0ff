use Rattle.smith_program.proofs.Common.{map, take, ◌≡◌}
use Rattle.smith_program.specs.Canonical.{canonical_body}
use Rattle.smith_program.proofs.canonical.canonical_bodies.Given as goal

abbrev pub invariant-loop-body : goal.invariant-loop-body
invariant-loop-body l = l.made ≡ map (canonical_body l.vectors l.first) (take l.body-index l.bodies)
