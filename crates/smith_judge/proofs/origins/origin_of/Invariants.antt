use Rattle.std.proofs.Common.{◌≡◌, ◌+◌, take}
use Rattle.smith_judge.specs.Places.{imported_count}
use Rattle.smith_judge.proofs.origins.origin_of.Given as goal

abbrev pub invariant-loop-place : goal.invariant-loop-place
invariant-loop-place l = l.index ≡ imported_count l.kind (take l.place l.groups) + l.left
