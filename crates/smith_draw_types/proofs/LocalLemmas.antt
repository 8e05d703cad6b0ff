-- Drawn locals are few and valid; without floats none is a float, and with `non_nullable_enabled`
-- off none is a non-nullable reference.
use Rattle.smith_draw_types.proofs.Common.{[], All, All-nil, arith, Config, Context, false, features_of, grow_all, grow_most, IsNoFloat}
use Rattle.smith_draw_types.proofs.Common.{IsNonNullable, IsSanitized, IsValTypeValid, length, List, ValType, ℕ, ◌≡◌, ◌≤◌}
use Rattle.smith_draw_types.specs.CompositeTypes.{val_types_at}
use Rattle.smith_draw_types.specs.Locals.{locals_at}
use Rattle.smith_draw_types.specs.ValueTypes.{val_type_at}
use Rattle.smith_draw_types.proofs.CompositeTypeLemmas.{val_types_drawn}
use Rattle.smith_draw_types.proofs.FloatLemmas.{values_no_float}
use Rattle.smith_draw_types.proofs.NullableLemmas.{val_type_nullable}
use Rattle.smith_draw_types.proofs.ValueTypeLemmas.{values_valid}

pub locals_most : (config : Config) (context : Context) (bytes : List ℕ) → length (locals_at config context bytes).0 ≤ 100
unfolding locals_at val_types_at
locals_most config context bytes = grow_most (λ _. val_type_at config context false (length context.types)) 0 100 100 [] bytes (omega arith)

pub locals_valid : (config : Config) (context : Context) (bytes : List ℕ) → IsSanitized config
    → All (IsValTypeValid (features_of config) (length context.types)) (locals_at config context bytes).0
unfolding locals_at
locals_valid config context bytes sanitized =
    values_valid config context.types false (length context.types) (locals_at config context bytes).0
    (val_types_drawn config context false (length context.types) 100 bytes sanitized (λ no. cc))

pub locals_no_float : (config : Config) (context : Context) (bytes : List ℕ) → config.allow_floats ≡ false
    → All IsNoFloat (locals_at config context bytes).0
unfolding locals_at
locals_no_float config context bytes off = values_no_float config off context false (length context.types) 100 bytes

pub locals_nullable : (config : Config) (off : config.non_nullable_enabled ≡ false) (context : Context) (bytes : List ℕ)
    → All (λ (ty : ValType). ¬ IsNonNullable ty) (locals_at config context bytes).0
unfolding locals_at val_types_at
locals_nullable config off context bytes =
    let Nullable = λ (ty : ValType). ¬ IsNonNullable ty in
    grow_all Nullable (λ _. val_type_at config context false (length context.types)) (λ _ after. val_type_nullable config off context false
    (length context.types) after) 0 100 [] bytes (All-nil Nullable)
