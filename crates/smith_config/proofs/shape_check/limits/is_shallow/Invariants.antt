use Rattle.std.proofs.Common.{◌<◌, ◌≤◌, ◌≡◌, ℕ, length}
use Rattle.smith_types.specs.GroupedTypes.{HasDepth}
use Rattle.smith_config.proofs.shape_check.limits.is_shallow.Given as goal

abbrev pub invariant-loop-index : goal.invariant-loop-index
invariant-loop-index l = record {
  whole : l.count ≡ length l.space.types;
  before : (i : ℕ) → i < l.index → (depth : ℕ) → HasDepth l.space.types i depth → depth ≤ 63;
}
