use Rattle.std.proofs.Common.{◌≡◌, take, map}
use Rattle.smith_check_types.specs.Renamed.{renamed_field}
use Rattle.smith_check_types.specs.TypeSections.{canonical_index}
use Rattle.smith_check_types.proofs.renamed.canonical_fields.Given as goal

abbrev pub invariant-loop-field : goal.invariant-loop-field
invariant-loop-field l = l.made ≡ map (renamed_field (canonical_index l.indices)) (take l.field-index l.fields)
