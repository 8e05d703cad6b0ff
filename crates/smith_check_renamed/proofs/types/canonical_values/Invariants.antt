use Rattle.std.proofs.Common.{◌≡◌, take, map}
use Rattle.smith_check_types.specs.Renamed.{renamed_val}
use Rattle.smith_check_types.specs.TypeSections.{canonical_index}
use Rattle.smith_check_renamed.proofs.types.canonical_values.Given as goal

abbrev pub invariant-loop-value : goal.invariant-loop-value
invariant-loop-value l = l.made ≡ map (renamed_val (canonical_index l.indices)) (take l.value-index l.values)
