use Rattle.std.proofs.Common.{◌≡◌, take, length}
use Rattle.std.specs.List.{flat_map}
use Rattle.smith_types.specs.Syntax.composite_type.SubType.{SubType}
use Rattle.smith_check_types.specs.Canonical.{rolled_index}
use Rattle.smith_check_types.specs.Codes.{type_codes}
use Rattle.smith_check_types.specs.Renamed.{renamed}
use Rattle.smith_check_types.proofs.codes.codes_of_group.Given as goal

abbrev pub invariant-loop-ty : goal.invariant-loop-ty
invariant-loop-ty l = l.codes ≡ flat_map (λ (t : SubType). type_codes (renamed (rolled_index l.indices (length l.indices)) t))
    (take l.ty-index l.group)
