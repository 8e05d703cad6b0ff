use Rattle.std.proofs.Common.{◌≡◌, ◌<◌, ◌≤◌, ℕ, Some}
use Rattle.std.specs.Prelude.{slice_get}
use Rattle.smith_types.specs.Syntax.FeatureBits.{features_in}
use Rattle.smith_types.specs.ValidTypes.{IsTypeValid}
use Rattle.smith_types.specs.Syntax.composite_type.SubType.{SubType}
use Rattle.smith_validity.proofs.valid_types.are_members_valid.Given as goal

abbrev pub invariant-loop-i : goal.invariant-loop-i
invariant-loop-i l = (j : ℕ) (t : SubType) → l.group.start ≤ j → j < l.i → slice_get l.space.types j ≡ Some t
    → IsTypeValid (features_in l.features) l.space.types l.group.end t
