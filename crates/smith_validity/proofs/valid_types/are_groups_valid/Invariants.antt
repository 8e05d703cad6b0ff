use Rattle.std.proofs.Common.{take}
use Rattle.std.specs.List.{All}
use Rattle.smith_types.specs.Syntax.FeatureBits.{features_in}
use Rattle.smith_types.specs.ValidTypes.{IsGroupValid}
use Rattle.smith_validity.proofs.valid_types.are_groups_valid.Given as goal

abbrev pub invariant-loop-group : goal.invariant-loop-group
invariant-loop-group l = All (IsGroupValid (features_in l.features) l.space.types) (take l.group-index l.groups)
