use Rattle.std.proofs.Common.{◌≡◌, ◌++◌, ◌∷◌, [], take, length}
use Rattle.std.specs.List.{flat_map}
use Rattle.smith_types.specs.Syntax.value_type.ValType.{ValType}
use Rattle.smith_check_types.specs.Canonical.{rolled_index}
use Rattle.smith_check_types.specs.Codes.{val_codes}
use Rattle.smith_check_types.specs.Renamed.{renamed_val}
use Rattle.smith_check_types.proofs.codes.push_values.Given as goal

abbrev pub invariant-loop-value : goal.invariant-loop-value
invariant-loop-value l =
    l.codes ≡ l.initial.codes ++ flat_map (λ (value : ValType). val_codes (renamed_val (rolled_index l.indices (length l.indices)) value))
    (take l.value-index l.values)
