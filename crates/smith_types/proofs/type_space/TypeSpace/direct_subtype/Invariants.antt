use Rattle.smith_types.proofs.Common.{slice_get, Some, ◌≡◌, ◌≤◌}
use Rattle.smith_types.specs.Families.{direct_subtypes}
use Rattle.smith_types.proofs.type_space.TypeSpace.direct_subtype.Given as goal

abbrev pub invariant-loop-at : goal.invariant-loop-at
invariant-loop-at l = record {
  ordered : l.place ≤ l.at;
  found : slice_get (direct_subtypes l.self.types l.index) l.at ≡ Some l.found;
}

abbrev pub decreases-loop-at : goal.decreases-loop-at
decreases-loop-at l = l.at
