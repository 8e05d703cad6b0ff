use Rattle.std.proofs.Common.{◌≡◌, ◌++◌, ◌∷◌, [], take, length}
use Rattle.std.specs.List.{flat_map}
use Rattle.smith_types.specs.Syntax.composite_type.FieldType.{FieldType}
use Rattle.smith_check_types.specs.Canonical.{rolled_index}
use Rattle.smith_check_types.specs.Codes.{field_codes}
use Rattle.smith_check_types.specs.Renamed.{renamed_field}
use Rattle.smith_check_types.proofs.codes.push_fields.Given as goal

abbrev pub invariant-loop-field : goal.invariant-loop-field
invariant-loop-field l =
    l.codes ≡ l.initial.codes ++ flat_map
    (λ (field : FieldType). field_codes (renamed_field (rolled_index l.indices (length l.indices)) field)) (take l.field-index l.fields)
