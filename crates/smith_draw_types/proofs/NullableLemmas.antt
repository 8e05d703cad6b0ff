-- With `non_nullable_enabled` off, no drawn reference is non-nullable. If no field or element of
-- the existing types is, none of a drawn type is.
use Rattle.smith_draw_types.proofs.Common.{Bool, Config, Context, false, GroupedTypes, IsNonNullable, IsOrderly, IsTrue, IsUngrounded}
use Rattle.smith_draw_types.proofs.Common.{length, List, refl, SubType, sym, true, ValType, ℕ, ◌∙◌, ◌≡◌}
use Rattle.std.specs.List.{Any}
use Rattle.std.proofs.lemmas.Bool.{true≢false}
use Rattle.smith_types.specs.Expressions.{field_values}
use Rattle.smith_types.specs.Syntax.value_type.ValType.TheVariants as vals
use Rattle.smith_draw_types.specs.Grounding.{over}
use Rattle.smith_draw_types.specs.declared.value_type.ValueClass.{ValueClass}
use Rattle.smith_draw_types.specs.declared.value_type.ValueClass.TheVariants.{I32, I64, F32, F64, V128, Reference}
use Rattle.smith_draw_types.specs.Choices.{enabled, chosen_at}
use Rattle.smith_draw_types.specs.HeldFields.{HoldsNonNullableField}
use Rattle.smith_draw_types.specs.HeldFields.{fields_of}
use Rattle.smith_draw_types.specs.ValueTypes.{value_classes, ref_type_at, value_of_class_at, val_type_at}
use Rattle.smith_draw_types.specs.GlobalTypes.{global_type_at}
use Rattle.smith_draw_types.specs.RecGroups.{types_at}
use Rattle.smith_draw_types.proofs.ValueTypeLemmas.{ref_type_granted}
use Rattle.smith_draw_types.proofs.FilledLemmas.{types_grounded}

nullable_unless : (nullable on : Bool) → on ≡ false → (nullable ≡ false → IsTrue on) → nullable ≡ true
nullable_unless true on off h = refl
nullable_unless false on off h = let e : on ≡ true = h refl in cc

-- a drawn reference is nullable if `non_nullable_enabled` is off
pub ref_type_nullable : (config : Config) (off : config.non_nullable_enabled ≡ false) (context : Context) (must_share : Bool) (limit : ℕ)
    (bytes : List ℕ) → (ref_type_at config context must_share limit bytes).0.nullable ≡ true
ref_type_nullable config off context must_share limit bytes =
    nullable_unless (ref_type_at config context must_share limit bytes).0.nullable config.non_nullable_enabled off
    (λ e. (ref_type_granted config context must_share limit bytes e).0)

value_of_class : (config : Config) (off : config.non_nullable_enabled ≡ false) (context : Context) (must_share : Bool) (limit : ℕ)
    (class : ValueClass) (bytes : List ℕ) → ¬ IsNonNullable (value_of_class_at config context must_share limit class bytes).0
value_of_class config off context must_share limit I32 bytes never = never
value_of_class config off context must_share limit I64 bytes never = never
value_of_class config off context must_share limit F32 bytes never = never
value_of_class config off context must_share limit F64 bytes never = never
value_of_class config off context must_share limit V128 bytes never = never
value_of_class config off context must_share limit Reference bytes never =
    true≢false (sym (ref_type_nullable config off context must_share limit bytes) ∙ never)

pub val_type_nullable : (config : Config) (off : config.non_nullable_enabled ≡ false) (context : Context) (must_share : Bool) (limit : ℕ)
    (bytes : List ℕ) → ¬ IsNonNullable (val_type_at config context must_share limit bytes).0
unfolding val_type_at
val_type_nullable config off context must_share limit bytes =
    let class = chosen_at I32 (enabled (value_classes config)) bytes in
    value_of_class config off context must_share limit class.0 class.1

pub global_type_nullable : (config : Config) (off : config.non_nullable_enabled ≡ false) (context : Context) (bytes : List ℕ)
    → ¬ IsNonNullable (global_type_at config context bytes).0.val_type
unfolding global_type_at
global_type_nullable config off context bytes = val_type_nullable config off context false (length context.types) bytes

-- a non-nullable reference is ungrounded if `non_nullable_enabled` is off
lacking_off : (config : Config) (off : config.non_nullable_enabled ≡ false) (context : Context) (value : ValType) → IsNonNullable value
    → IsUngrounded config context value
lacking_off config off context (vals.Ref r) not_null = (not_null, λ on. cc)
lacking_off config off context vals.I32 never = never
lacking_off config off context vals.I64 never = never
lacking_off config off context vals.F32 never = never
lacking_off config off context vals.F64 never = never
lacking_off config off context vals.V128 never = never

pub ungrounded_not_null : (config : Config) (context : Context) (value : ValType) → IsUngrounded config context value → IsNonNullable value
ungrounded_not_null config context (vals.Ref r) (not_null, none) = not_null
ungrounded_not_null config context vals.I32 never = never
ungrounded_not_null config context vals.I64 never = never
ungrounded_not_null config context vals.F32 never = never
ungrounded_not_null config context vals.F64 never = never
ungrounded_not_null config context vals.V128 never = never

-- a weaker property holds for an item if some item has the stronger one
any_weaker : {A : Type 0} (P Q : A → Type 0) → ((x : A) → P x → Q x) → (xs : List A) → Any P xs → Any Q xs
any_weaker P Q f xs (k, x, inside, at, p) = (k, x, inside, at, f x p)

held_weaker : (P Q : ValType → Type 0) → ((v : ValType) → P v → Q v) → (types : List SubType)
    → Any (λ (t : SubType). Any P (field_values (fields_of t.composite_type.inner))) types
    → Any (λ (t : SubType). Any Q (field_values (fields_of t.composite_type.inner))) types
held_weaker P Q f types any =
    any_weaker (λ (t : SubType). Any P (field_values (fields_of t.composite_type.inner)))
    (λ (t : SubType). Any Q (field_values (fields_of t.composite_type.inner)))
    (λ t. any_weaker P Q f (field_values (fields_of t.composite_type.inner))) types any

pub types_nullable : (config : Config) (off : config.non_nullable_enabled ≡ false) (context : Context) (space : GroupedTypes)
    (bytes : List ℕ) → IsOrderly space.types → ¬ HoldsNonNullableField space.types
    → ¬ HoldsNonNullableField (types_at config context space bytes).0.types
types_nullable config off context space bytes orderly none holds =
    let drawn = (types_at config context space bytes).0.types in
    types_grounded config context space bytes orderly
    (λ held. none (held_weaker (IsUngrounded config (over context space.types)) IsNonNullable
    (ungrounded_not_null config (over context space.types)) space.types held))
    (held_weaker IsNonNullable (IsUngrounded config (over context drawn)) (lacking_off config off (over context drawn)) drawn holds)
