use Rattle.smith_types.proofs.Common.{ℕ, ◌<◌}
use Rattle.smith_types.specs.Grounded.{IsGroundedBy}
use Rattle.smith_types.proofs.type_space.TypeSpace.finds_ground.Given as goal

abbrev pub invariant-loop-index : goal.invariant-loop-index
invariant-loop-index l = (i : ℕ) → i < l.index → IsGroundedBy l.self.types l.descriptors l.ty i → ⊥
