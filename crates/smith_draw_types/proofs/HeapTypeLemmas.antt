-- Drawn heap types that match a heap type are subtypes of it, and drawn supertypes are supertypes;
-- both are valid if it is.
use Rattle.smith_draw_types.proofs.Common.{[], Abstract, AbstractHeapType, All, All-from_recursion, arith, below_declared, Bool, bottom}
use Rattle.smith_draw_types.proofs.Common.{bottom_of, CompositeInnerType, Concrete, cond, Config, Exact, false, features_of}
use Rattle.smith_draw_types.proofs.Common.{get_or_from_slice_get, HeapType, is_abstract_below, IsBelow, IsBelow-trans, IsHeapTypeValid}
use Rattle.smith_draw_types.proofs.Common.{IsOrderly, IsTrue, itself, kind, kind_of, length, List, refl, rules, shared, slice_get}
use Rattle.smith_draw_types.proofs.Common.{slice_get_within, Some, subst, SubType, sym, true, ℕ, ◌<◌, ◌∷◌, ◌≡◌, ◌≤◌}
use Rattle.std.specs.List.{AllByRecursion as Each}
use Rattle.smith_types.specs.Syntax.Features.{Features}
use Rattle.smith_types.specs.Flags.{IsAbstractEnabled}
use Rattle.smith_types.proofs.PathLemmas.{above_bottom, below_abstract, below_kind, exact_below}
use Rattle.smith_draw_types.specs.Offered.{gc_subtypes, gc_supertypes, subtypes_offered, supertypes_offered}
use Rattle.smith_draw_types.specs.Kept.{IsSharingEnabled, StaysValid}
use Rattle.smith_draw_types.specs.MatchingTypes.{matching_heap_type_at, super_heap_type_at}
use Rattle.smith_draw_types.proofs.EnabledLemmas.{chosen_is}
use Rattle.smith_draw_types.proofs.AncestorLemmas.{ancestors_above, ancestors_each, stands}
use Rattle.smith_draw_types.proofs.OfferedLemmas.{below_abstract_each, above_abstract_each, below_concrete_each, above_concrete_each}

-- subtypes and supertypes
kind_below : (types : List SubType) (s : Bool) (a : AbstractHeapType) (k : ℕ) (t : SubType) → slice_get types k ≡ Some t → shared t ≡ s
    → IsTrue (is_abstract_below (kind t) a) → IsBelow types (Concrete k) (Abstract s a)
kind_below types s a k t at same below =
    subst (λ (r : Bool). IsBelow types (Concrete k) (Abstract r a)) same
    (IsBelow-trans types (below_kind types k t at) (below_abstract types (shared t) (kind t) a below))

pub gc_subtypes_below : (config : Config) (types : List SubType) (ty : HeapType) → Each (λ (h : HeapType). IsBelow types h ty)
    (gc_subtypes config types ty)
gc_subtypes_below config types (Abstract s a) =
    below_abstract_each (λ (h : HeapType). IsBelow types h (Abstract s a)) types s a (λ b below. below_abstract types s b a below)
    (λ k t at same below. kind_below types s a k t at same below)
gc_subtypes_below config types (Concrete i) =
    below_concrete_each (λ (h : HeapType). IsBelow types h (Concrete i)) config types i itself
    (λ k t at sup. below_declared types k i t at sup) (λ on. exact_below types i)
    (λ t at. above_bottom types (shared t) (bottom t) i t at refl refl)
gc_subtypes_below config types (Exact i) = (itself, tt)

pub gc_supertypes_above : (types : List SubType) (ty : HeapType) → Each (λ (h : HeapType). IsBelow types ty h) (gc_supertypes types ty)
gc_supertypes_above types (Abstract s a) =
    above_abstract_each (λ (h : HeapType). IsBelow types (Abstract s a) h) types s a (λ b below. below_abstract types s a b below)
    (λ k t at same is_bottom. above_bottom types s a k t at (sym same) is_bottom)
gc_supertypes_above types (Concrete i) =
    above_concrete_each (λ (h : HeapType). IsBelow types (Concrete i) h) types i itself
    (λ t at b below. kind_below types (shared t) b i t at refl below) (ancestors_above types i)
gc_supertypes_above types (Exact i) = (itself, tt)

-- with and without garbage collection
pub offered_each : (P : HeapType → Type 0) (gc : Bool) (ty : HeapType) (offered : List HeapType) → P ty → (IsTrue gc → Each P offered)
    → Each P (cond gc offered (ty ∷ []))
offered_each P true ty offered own each = each refl
offered_each P false ty offered own each = (own, tt)

chosen_each : (P : HeapType → Type 0) (gc : Bool) (ty : HeapType) (offered : List HeapType) → P ty → (IsTrue gc → Each P offered)
    → All P (cond gc offered (ty ∷ []))
chosen_each P gc ty offered own each = All-from_recursion P (cond gc offered (ty ∷ [])) (offered_each P gc ty offered own each)

-- a property of the argument and of each offered subtype holds for the drawn one
matching_is : (P : HeapType → Type 0) (config : Config) (types : List SubType) (ty : HeapType) (bytes : List ℕ) → P ty
    → (IsTrue config.gc_enabled → Each P (gc_subtypes config types ty)) → P (matching_heap_type_at config types ty bytes).0
unfolding matching_heap_type_at subtypes_offered
matching_is P config types ty bytes own each =
    chosen_is P ty (subtypes_offered config types ty) bytes (chosen_each P config.gc_enabled ty (gc_subtypes config types ty) own each) own

super_is : (P : HeapType → Type 0) (config : Config) (types : List SubType) (ty : HeapType) (bytes : List ℕ) → P ty
    → (IsTrue config.gc_enabled → Each P (gc_supertypes types ty)) → P (super_heap_type_at config types ty bytes).0
unfolding super_heap_type_at supertypes_offered
super_is P config types ty bytes own each =
    chosen_is P ty (supertypes_offered config types ty) bytes (chosen_each P config.gc_enabled ty (gc_supertypes types ty) own each) own

pub matching_heap_below : (config : Config) (types : List SubType) (ty : HeapType) (bytes : List ℕ)
    → IsBelow types (matching_heap_type_at config types ty bytes).0 ty
matching_heap_below config types ty bytes = matching_is (λ (h : HeapType). IsBelow types h ty) config types ty bytes itself
    (λ on. gc_subtypes_below config types ty)

pub super_heap_above : (config : Config) (types : List SubType) (ty : HeapType) (bytes : List ℕ)
    → IsBelow types ty (super_heap_type_at config types ty bytes).0
super_heap_above config types ty bytes = super_is (λ (h : HeapType). IsBelow types ty h) config types ty bytes itself
    (λ on. gc_supertypes_above types ty)

-- validity
enabled_below : (features : Features) (a b : AbstractHeapType) → IsTrue features.gc → IsTrue (is_abstract_below b a)
    → IsAbstractEnabled features a → IsAbstractEnabled features b
enabled_below features a b gc below on = search rules

enabled_above : (features : Features) (a b : AbstractHeapType) → IsTrue features.gc → IsTrue (is_abstract_below a b)
    → IsAbstractEnabled features a → IsAbstractEnabled features b
enabled_above features a b gc below on = search rules

inner_enabled : (features : Features) (inner : CompositeInnerType) → IsTrue features.gc → IsAbstractEnabled features (bottom_of inner)
inner_enabled features inner gc = search rules

kind_enabled : (features : Features) (inner : CompositeInnerType) (b : AbstractHeapType) → IsTrue features.gc
    → IsTrue (is_abstract_below (kind_of inner) b) → IsAbstractEnabled features b
kind_enabled features inner b gc below = search rules

shared_enabled : (features : Features) (types : List SubType) → All (IsSharingEnabled features) types → (i : ℕ) (t : SubType)
    → slice_get types i ≡ Some t → IsSharingEnabled features t
shared_enabled features types sharing i t at =
    let inside = slice_get_within types i t at in
    subst (IsSharingEnabled features) (get_or_from_slice_get types i t t at) (sharing i t inside)

pub gc_subtypes_valid : (config : Config) (types : List SubType) (ty : HeapType) (end : ℕ) → IsTrue config.gc_enabled → length types ≤ end
    → All (IsSharingEnabled (features_of config)) types → IsHeapTypeValid (features_of config) end ty
    → Each (IsHeapTypeValid (features_of config) end) (gc_subtypes config types ty)
gc_subtypes_valid config types (Abstract s a) end gc le sharing valid =
    below_abstract_each (IsHeapTypeValid (features_of config) end) types s a
    (λ b below. (enabled_below (features_of config) a b gc below valid.0, valid.1))
    (λ k t at same below. let inside = slice_get_within types k t at in (gc, omega arith))
gc_subtypes_valid config types (Concrete i) end gc le sharing valid =
    below_concrete_each (IsHeapTypeValid (features_of config) end) config types i valid
    (λ k t at sup. let inside = slice_get_within types k t at in (gc, omega arith))
    (λ on. (on, valid.1))
    (λ t at. (inner_enabled (features_of config) t.composite_type.inner gc, shared_enabled (features_of config) types sharing i t at))
gc_subtypes_valid config types (Exact i) end gc le sharing valid = (valid, tt)

gc_supertypes_valid : (config : Config) (types : List SubType) → IsOrderly types → (ty : HeapType) (end : ℕ) → IsTrue config.gc_enabled
    → length types ≤ end → All (IsSharingEnabled (features_of config)) types → IsHeapTypeValid (features_of config) end ty
    → Each (IsHeapTypeValid (features_of config) end) (gc_supertypes types ty)
gc_supertypes_valid config types orderly (Abstract s a) end gc le sharing valid =
    above_abstract_each (IsHeapTypeValid (features_of config) end) types s a
    (λ b below. (enabled_above (features_of config) a b gc below valid.0, valid.1))
    (λ k t at same is_bottom. let inside = slice_get_within types k t at in (gc, omega arith))
gc_supertypes_valid config types orderly (Concrete i) end gc le sharing valid =
    above_concrete_each (IsHeapTypeValid (features_of config) end) types i valid
    (λ t at b below. (
      kind_enabled (features_of config) t.composite_type.inner b gc below,
      shared_enabled (features_of config) types sharing
          i t at,
    ))
    (ancestors_each (IsHeapTypeValid (features_of config) end) types (λ j s e.
    let (t, at, sup) = stands types j s e in
    let inside : j < length types = slice_get_within types j t at in
    let before : s < j = (orderly.under j s t at sup).0 in
    (gc, omega arith)) i)
gc_supertypes_valid config types orderly (Exact i) end gc le sharing valid = (valid, tt)

pub matching_heap_valid : (config : Config) (types : List SubType) (ty : HeapType) (bytes : List ℕ)
    → StaysValid (IsHeapTypeValid (features_of config)) (features_of config) types ty (matching_heap_type_at config types ty bytes).0
matching_heap_valid config types ty bytes = record {
  against = λ end le sharing valid. matching_is (IsHeapTypeValid (features_of config) end) config types ty bytes valid
      (λ gc. gc_subtypes_valid config types ty end gc le sharing valid);
}

pub super_heap_valid : (config : Config) (types : List SubType) → IsOrderly types → (ty : HeapType) (bytes : List ℕ)
    → StaysValid (IsHeapTypeValid (features_of config)) (features_of config) types ty (super_heap_type_at config types ty bytes).0
super_heap_valid config types orderly ty bytes = record {
  against = λ end le sharing valid. super_is (IsHeapTypeValid (features_of config) end) config types ty bytes valid
      (λ gc. gc_supertypes_valid config types orderly ty end gc le sharing valid);
}
