-- The refusals of functions: without garbage collection only if `min_types` is 0.
use Rattle.smith_draw_definitions.proofs.Common.{[], ap, AreTypesValid, arith, Bool, cond, Config, Err, Error, false, features_of}
use Rattle.smith_draw_definitions.proofs.Common.{GroupedTypes, inl, inr, IsSanitized, length, List, Ok, refl, Result, slice_get, subst}
use Rattle.smith_draw_definitions.proofs.Common.{SubType, suc, sym, true, zero, ℕ, ◌&&◌, ◌<◌, ◌∷◌, ◌≡◌, ◌≤◌, ◌⊎◌}
use Rattle.std.proofs.Common.{not}
use Rattle.std.specs.Prelude.{IfErr}
use Rattle.smith_types.specs.Flags.{IsInnerEnabled}
use Rattle.smith_types.specs.ValidTypes.{IsTypeValid}
use Rattle.smith_types.specs.Syntax.composite_type.CompositeInnerType.{CompositeInnerType}
use Rattle.smith_types.specs.Syntax.composite_type.CompositeInnerType.TheVariants as inners
use Rattle.smith_types.proofs.ValidityLemmas.{AreTypesValid-at}
use Rattle.smith_bytes.specs.declared.error.Error.TheVariants as errors
use Rattle.smith_bytes.specs.declared.error.Why.TheVariants.{Unmet}
use Rattle.smith_bytes.specs.declared.error.Count.TheVariants as counts
use Rattle.smith_module_rules.specs.Refusals.{MayRefuse}
use Rattle.smith_types.specs.KindCounts.{is_function}
use Rattle.smith_draw_types.specs.TypeUses.{places_from, is_unshared_function, func_types}

-- without garbage collection only unshared functions are enabled
plain : (features_gc shared : Bool) (inner : CompositeInnerType) → (is_function inner ≡ false → features_gc ≡ true) → features_gc ≡ false
    → (shared ≡ true → ⊥) → (is_function inner && not shared) ≡ true
plain gc true inner aggregate off unshared = absurd (unshared refl)
plain gc false (inners.Func function) aggregate off unshared = refl
plain gc false (inners.Array array) aggregate off unshared = let on = aggregate refl in cc
plain gc false (inners.Struct structure) aggregate off unshared = let on = aggregate refl in cc

aggregate_gc : (config : Config) (inner : CompositeInnerType) → IsInnerEnabled (features_of config) inner → is_function inner ≡ false
    → config.gc_enabled ≡ true
aggregate_gc config (inners.Func function) h e = cc
aggregate_gc config (inners.Array array) h e = h
aggregate_gc config (inners.Struct structure) h e = h

-- shared types require garbage collection
unshared : (config : Config) → IsSanitized config → config.gc_enabled ≡ false → config.shared_everything_threads_enabled ≡ true → ⊥
unshared config sanitized off on = let gc : config.gc_enabled ≡ true = sanitized.shared_gc on in cc

some_turn : (b : Bool) (places : List ℕ) → b ≡ true → 0 < length (cond b (0 ∷ places) places)
some_turn true places e = omega arith
some_turn false places e = cc

first_plain : (config : Config) (t : SubType) (types : List SubType) (end : ℕ) → IsSanitized config → config.gc_enabled ≡ false
    → IsTypeValid (features_of config) types end t → is_unshared_function t ≡ true
unfolding is_unshared_function
first_plain config t types end sanitized off h =
    plain config.gc_enabled t.composite_type.shared t.composite_type.inner (aggregate_gc config t.composite_type.inner h.enabled.inner) off
    (λ shared. unshared config sanitized off (h.enabled.shared shared))

some_types : (config : Config) (space : GroupedTypes) (types : List SubType) → IsSanitized config → config.gc_enabled ≡ false
    → AreTypesValid (features_of config) space → space.types ≡ types → 0 < length types → 0 < length (func_types types)
some_types config space [] sanitized off valid e some = absurd (omega arith)
some_types config space (t ∷ types) sanitized off valid e some =
    let (end, h) = AreTypesValid-at (features_of config) space valid 0 t (ap (λ (l : List SubType). slice_get l 0) e) in
    some_turn (is_unshared_function t) (places_from is_unshared_function 1 types) (first_plain config t space.types end sanitized off h)

-- without garbage collection the first type is that of an unshared function
pub func_types_some : (config : Config) (space : GroupedTypes) → IsSanitized config → config.gc_enabled ≡ false
    → AreTypesValid (features_of config) space → 0 < length space.types → 0 < length (func_types space.types)
func_types_some config space sanitized off valid some = some_types config space space.types sanitized off valid refl some

zero_or_more : (n : ℕ) → (n ≡ 0) ⊎ (0 < n)
zero_or_more zero = inl refl
zero_or_more (suc n) = inr (omega arith)

no_type_asked : (config : Config) (space : GroupedTypes) → IsSanitized config → config.gc_enabled ≡ false
    → AreTypesValid (features_of config) space → config.min_types ≤ length space.types → length (func_types space.types) ≡ 0
    → config.min_types ≡ 0
no_type_asked config space sanitized off valid le none =
    elim (zero_or_more (length space.types)) [
      | inl no_type ↦ omega arith
      | inr some ↦ let more = func_types_some config space sanitized off valid some in absurd (omega arith)
    ]

-- functions are refused for lack of memory, or because no type is suitable
pub funcs_refuse : {X : Type 0} (config : Config) (space : GroupedTypes) (r : Result X Error) → IsSanitized config
    → AreTypesValid (features_of config) space → config.min_types ≤ length space.types
    → IfErr r (λ e. (e ≡ errors.Memory) ⊎ ((e ≡ errors.IncorrectFormat (Unmet counts.Funcs)) × (0 < config.min_funcs)
    × (length (func_types space.types) ≡ 0))) → IfErr r (MayRefuse config)
funcs_refuse config space (Ok funcs) sanitized valid le h = tt
funcs_refuse config space (Err e) sanitized valid le (inl memory) = subst (MayRefuse config) (sym memory) tt
funcs_refuse config space (Err e) sanitized valid le (inr (unmet, some, none)) = subst (MayRefuse config) (sym unmet)
    (tt, (some, λ off. no_type_asked config space sanitized off valid le none))
