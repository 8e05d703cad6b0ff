use Rattle.smith_types.proofs.Common.{Concrete, length, ℕ, ◌<◌, ◌≤◌}
use Rattle.smith_types.specs.GroupedTypes.{HasDepth}
use Rattle.smith_types.specs.Subtyping.{IsBelow}
use Rattle.smith_types.proofs.place.find_ancestor.Given as goal

abbrev pub invariant-loop-at : goal.invariant-loop-at
invariant-loop-at l = record {
  inside : l.at < length l.types;
  below : IsBelow l.types (Concrete l.fn.index) (Concrete l.at);
  within : (own : ℕ) → HasDepth l.types l.at own → l.depth ≤ own;
}

abbrev pub decreases-loop-at : goal.decreases-loop-at
decreases-loop-at l = l.at
