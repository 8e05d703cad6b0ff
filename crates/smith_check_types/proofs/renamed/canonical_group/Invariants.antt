use Rattle.std.proofs.Common.{◌≡◌, take, map}
use Rattle.smith_check_types.specs.Renamed.{renamed}
use Rattle.smith_check_types.specs.TypeSections.{canonical_index}
use Rattle.smith_check_types.proofs.renamed.canonical_group.Given as goal

abbrev pub invariant-loop-ty : goal.invariant-loop-ty
invariant-loop-ty l = l.made ≡ map (renamed (canonical_index l.indices)) (take l.ty-index l.group)
