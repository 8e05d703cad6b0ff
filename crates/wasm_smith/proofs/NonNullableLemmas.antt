-- Whether a shape in use holds a non-nullable reference is decidable.
use Rattle.wasm_smith.proofs.Common.{Bool, Config, false, HoldsNonNullable, inl, inr, IsSomeAnd, List, None, Option, refl, rules, Shape}
use Rattle.wasm_smith.proofs.Common.{shape_for, Some, true, ValType, Which, ◌≡◌, ◌⊎◌}
use Rattle.std.proofs.Common.{not}
use Rattle.std.specs.List.{Any, list_any}
use Rattle.std.proofs.lemmas.List.Folds.{Any-from_list_any, list_any-from_Any}
use Rattle.smith_bytes.specs.declared.error.Which.TheVariants as which
use Rattle.smith_types.specs.Syntax.value_type.ValType.TheVariants as value
use Rattle.smith_config.specs.Shapes.{shape_values}
use Rattle.smith_config.specs.Granted.{IsNonNullable}

never_null : ValType → Bool
never_null (value.Ref reference) = not reference.nullable
never_null _ = false

not_null : (nullable : Bool) → not nullable ≡ true → nullable ≡ false
not_null true is = cc
not_null false is = refl

so_null : (nullable : Bool) → nullable ≡ false → not nullable ≡ true
so_null true is = cc
so_null false is = refl

told : (v : ValType) → never_null v ≡ true → IsNonNullable v
unfolding never_null
told (value.Ref reference) is = not_null reference.nullable is
told value.I32 is = absurd cc
told value.I64 is = absurd cc
told value.F32 is = absurd cc
told value.F64 is = absurd cc
told value.V128 is = absurd cc

tells : (v : ValType) → IsNonNullable v → never_null v ≡ true
unfolding never_null
tells (value.Ref reference) is = so_null reference.nullable is
tells _ is = absurd is

any_so : {A : Type 0} {P Q : A → Type 0} → ((x : A) → P x → Q x) → (xs : List A) → Any P xs → Any Q xs
any_so f xs (k, x, inside, is, h) = (k, x, inside, is, f x h)

some_by : (found : Bool) (xs : List ValType) → list_any never_null xs ≡ found → Any IsNonNullable xs ⊎ (Any IsNonNullable xs → ⊥)
some_by true xs is = inl (any_so told xs (Any-from_list_any never_null xs is))
some_by false xs is = inr (λ some. let found = list_any-from_Any never_null xs (any_so tells xs some) in cc)

given_or_not : (given : Option Shape) → IsSomeAnd given (λ shape. Any IsNonNullable (shape_values shape))
    ⊎ (IsSomeAnd given (λ shape. Any IsNonNullable (shape_values shape)) → ⊥)
given_or_not (Some shape) = some_by (list_any never_null (shape_values shape)) (shape_values shape) refl
given_or_not None = inr (λ some. search rules)

none_of : (config : Config) → (IsSomeAnd (shape_for config which.AvailableImports) (λ shape. Any IsNonNullable (shape_values shape)) → ⊥)
    → (IsSomeAnd (shape_for config which.Exports) (λ shape. Any IsNonNullable (shape_values shape)) → ⊥)
    → (IsSomeAnd (shape_for config which.ModuleShape) (λ shape. Any IsNonNullable (shape_values shape)) → ⊥) → (for_use : Which)
    → IsSomeAnd (shape_for config for_use) (λ shape. Any IsNonNullable (shape_values shape)) → ⊥
none_of config offered exported shaped which.AvailableImports h = offered h
none_of config offered exported shaped which.Exports h = exported h
none_of config offered exported shaped which.ModuleShape h = shaped h

-- a shape in use holds such a reference, or none does
pub holds_or_not : (config : Config) → HoldsNonNullable config ⊎ (HoldsNonNullable config → ⊥)
holds_or_not config = elim (given_or_not (shape_for config which.AvailableImports)) [
  | inl offered ↦ inl (which.AvailableImports, offered)
  | inr none_offered ↦ elim (given_or_not (shape_for config which.Exports)) [
    | inl exported ↦ inl (which.Exports, exported)
    | inr none_exported ↦ elim (given_or_not (shape_for config which.ModuleShape)) [
      | inl shaped ↦ inl (which.ModuleShape, shaped)
      | inr none_shaped ↦ inr (λ holds. none_of config none_offered none_exported none_shaped holds.0 holds.1)
    ]
  ]
]
