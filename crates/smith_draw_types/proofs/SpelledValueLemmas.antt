-- From a source that starts with a piece that spells a heap or value type, this type is drawn, and
-- the bytes after the piece remain.
use Rattle.smith_draw_types.proofs.Common.{[], Abstract, AbstractHeapType, arith, Bool, bool_at, bool_read, Concrete, cond, Config, Context}
use Rattle.smith_draw_types.proofs.Common.{Exact, false, get_or_from_slice_get, HeapType, inl, inr, IsGroundedByStructs, IsInRange}
use Rattle.smith_draw_types.proofs.Common.{IsOrderly, IsTrue, joined_parts, length, List, lt-ltb, ltb-true, nat_lt, not, number_read}
use Rattle.smith_draw_types.proofs.Common.{ratio_at, refl, RefType, slice_get, Some, SpellsRefusal, subst, SubType, suc, sym, true, ValType}
use Rattle.smith_draw_types.proofs.Common.{Where, zero, ℕ, ◌&&◌, ◌++◌, ◌-◌, ◌<◌, ◌∷◌, ◌≡◌}
use Rattle.std.specs.Prelude.{◌⊎◌}
use Rattle.smith_bytes.specs.Spelling.{SpellsBool}
use Rattle.smith_bytes.proofs.SpelledLemmas.{refusal_read}
use Rattle.smith_types.specs.Syntax.value_type.AbstractHeapType.TheVariants.{Func}
use Rattle.smith_types.specs.Syntax.value_type.ValType.TheVariants as vals
use Rattle.smith_draw_types.specs.declared.value_type.ValueClass.TheVariants.{I32}
use Rattle.smith_draw_types.specs.Choices.{enabled, chosen_at}
use Rattle.smith_draw_types.specs.Grounding.{is_grounded}
use Rattle.smith_draw_types.specs.ValueTypes.{value_classes, abstract_heap_types, sharedness_at, abstract_heap_type_at, index_wanted_at}
use Rattle.smith_draw_types.specs.ValueTypes.{type_index_at, heap_type_at, granted_at, ref_type_at, value_of_class_at, val_type_at}
use Rattle.smith_draw_types.specs.Spelling.{SpellsPlace, SpellsUnshared, SpellsConcrete, SpellsHeapType, SpellsNullable, SpellsRefType}
use Rattle.smith_draw_types.specs.Spelling.{SpellsAfterClass, SpellsValType, class_of, RefersTo}
use Rattle.smith_draw_types.proofs.GroundingLemmas.{by_structs}

pub chosen_read : {A : Type 0} (other : A) (items : List A) (item : A) (piece after : List ℕ) → SpellsPlace items item piece
    → chosen_at other items (piece ++ after) ≡ (item, after)
unfolding chosen_at
chosen_read other items item piece after h = rw (
  number_read h.place 0 (length items - 1) piece after h.number,
  get_or_from_slice_get items h.place item other h.stands,
) refl

-- a refusal, if there is a draw
pub refused_where : (on : Bool) (chances : ℕ) (piece after : List ℕ) → Where on (SpellsRefusal chances) piece
    → cond on (ratio_at 1 chances (piece ++ after)) (false, piece ++ after) ≡ (false, after)
refused_where true chances piece after h = refusal_read chances piece after h
refused_where false chances piece after h = rw h refl

pub unshared_read : (config : Config) (piece after : List ℕ) → SpellsUnshared config piece → sharedness_at config false (piece ++ after)
    ≡ (false, after)
unfolding sharedness_at
unshared_read config piece after h = refused_where config.shared_everything_threads_enabled 4 piece after h

wanted_where : (on wanted : Bool) (piece after : List ℕ) → (IsTrue wanted → IsTrue on) → Where on (SpellsBool wanted) piece
    → cond on (bool_at (piece ++ after)) (false, piece ++ after) ≡ (wanted, after)
wanted_where true wanted piece after may h = bool_read wanted piece after h
wanted_where false true piece after may h = let on : false ≡ true = may refl in cc
wanted_where false false piece after may h = rw h refl

wanted_read : (config : Config) (limit : ℕ) (wanted : Bool) (piece after : List ℕ)
    → (IsTrue wanted → IsTrue (config.gc_enabled && nat_lt 0 limit)) → SpellsConcrete config limit wanted piece
    → index_wanted_at config limit (piece ++ after) ≡ (wanted, after)
wanted_read config limit wanted piece after may h = wanted_where (config.gc_enabled && nat_lt 0 limit) wanted piece after may h

-- if an index is below the limit, the limit is above 0
some_below : (gc : Bool) (index limit : ℕ) → IsTrue (gc && nat_lt index limit) → IsTrue (gc && nat_lt 0 limit)
some_below true index limit h =
    let below : index < limit = ltb-true index limit h in
    lt-ltb 0 limit (omega arith)
some_below false index limit h = h

abstract_read : (config : Config) (types : List SubType) (limit : ℕ) (shared : Bool) (ty : AbstractHeapType) (piece after : List ℕ)
    → SpellsHeapType config limit (Abstract shared ty) piece
    → heap_type_at config types false limit (piece ++ after) ≡ (Abstract shared ty, after)
unfolding heap_type_at type_index_at abstract_heap_type_at
abstract_read config types limit shared ty piece after h =
    let unshared = h.0 in
    let parts = h.1 in
    let rest = parts.is_second in
    let following = rest.first ++ (rest.second ++ after) in
    rw (
      joined_parts parts after,
      joined_parts rest after,
      wanted_read config limit false parts.first following (λ no. cc) parts.is_first,
      unshared_read config rest.first (rest.second ++ after) rest.is_first,
      chosen_read Func (enabled (abstract_heap_types config)) ty rest.second after rest.is_second,
      unshared,
    ) refl

concrete_read : (config : Config) (types : List SubType) (limit index : ℕ) (piece after : List ℕ) (t : SubType)
    → slice_get types index ≡ Some t → SpellsHeapType config limit (Concrete index) piece
    → heap_type_at config types false limit (piece ++ after) ≡ (Concrete index, after)
unfolding heap_type_at type_index_at
concrete_read config types limit index piece after t stands h =
    let below = h.0 in
    let parts = h.1 in
    rw (
      joined_parts parts after,
      wanted_read config limit true parts.first (parts.second ++ after) (λ yes. some_below config.gc_enabled index limit below)
          parts.is_first,
      number_read index 0 (limit - 1) parts.second after parts.is_second,
      stands,
    ) refl

standing : (types : List SubType) (index : ℕ) → index < length types → (t : SubType) × (slice_get types index ≡ Some t)
standing [] index below = absurd (omega arith)
standing (t ∷ types) zero below = (t, refl)
standing (t ∷ types) (suc index) below = standing types index (omega arith)

pub heap_type_read : (config : Config) (types : List SubType) (limit : ℕ) (ty : HeapType) (piece after : List ℕ) → IsInRange types ty
    → SpellsHeapType config limit ty piece
    → heap_type_at config types false limit (piece ++ after) ≡ (ty, after)
heap_type_read config types limit (Abstract shared ty) piece after stands h = abstract_read config types limit shared ty piece after h
heap_type_read config types limit (Concrete index) piece after stands h =
    let (t, at) = standing types index stands in
    concrete_read config types limit index piece after t at h
heap_type_read config types limit (Exact index) piece after stands h = absurd h

-- the condition for reading a value type over types and functions: the types that it refers to
-- exist, and a non-nullable reference is grounded
abbrev pub IsReadable : Context → ValType → Type 0
IsReadable context (vals.Ref reference) = IsInRange context.types reference.heap_type
    × (IsTrue reference.nullable ⊎ IsTrue (is_grounded context reference.heap_type))
IsReadable context _ = Unit {0}

-- a struct type among the types grounds the same heap types over them and functions
pub readable : (config : Config) (context : Context) (value : ValType) → context.features.custom_descriptors
    ≡ config.custom_descriptors_enabled → IsOrderly context.types → RefersTo config context.types value → IsReadable context value
readable config context vals.I32 same orderly h = tt
readable config context vals.I64 same orderly h = tt
readable config context vals.F32 same orderly h = tt
readable config context vals.F64 same orderly h = tt
readable config context vals.V128 same orderly h = tt
readable config context (vals.Ref reference) same orderly (stands, granted) = (
  stands,
  elim granted [
    | inl nullable ↦ inl nullable
    | inr grounded ↦ inr (sym
        (by_structs context reference.heap_type orderly
        (subst (λ (exact : Bool). IsGroundedByStructs context.types exact reference.heap_type) (sym same) grounded)))
  ],
)

granted_by : (on nullable grounded : Bool) (piece after : List ℕ) → IsTrue nullable ⊎ IsTrue grounded → SpellsNullable on nullable piece
    → cond {A = Bool × List ℕ} on ((bool_at (piece ++ after)).0 && grounded, (bool_at (piece ++ after)).1) (false, piece ++ after)
    ≡ (not nullable, after)
granted_by true true grounded piece after may h = rw (bool_read false piece after h) refl
granted_by true false true piece after may h = rw (bool_read true piece after h) refl
granted_by true false false piece after may h = elim may [ inl never ↦ cc | inr never ↦ cc ]
granted_by false true grounded piece after may h = rw h.1 refl
granted_by false false grounded piece after may h = cc h.0

-- with `non_nullable_enabled` off, no bool is drawn
granted_read : (config : Config) (context : Context) (ty : HeapType) (nullable : Bool) (piece after : List ℕ) → IsTrue nullable
    ⊎ IsTrue (is_grounded context ty) → SpellsNullable config.non_nullable_enabled nullable piece
    → granted_at config context ty (piece ++ after) ≡ (not nullable, after)
unfolding granted_at
granted_read config context ty nullable piece after may h = granted_by config.non_nullable_enabled nullable (is_grounded context ty) piece
    after may h

not_twice : (b : Bool) → not (not b) ≡ b
not_twice true = refl
not_twice false = refl

drawn_where : (on : Bool) (drawn other : RefType × List ℕ) (reference : RefType) (after : List ℕ) → IsTrue on → drawn ≡ (reference, after)
    → cond {A = RefType × List ℕ} on drawn other ≡ (reference, after)
drawn_where true drawn other reference after on read = read
drawn_where false drawn other reference after on read = cc

pub ref_type_read : (config : Config) (context : Context) (limit : ℕ) (reference : RefType) (piece after : List ℕ)
    → IsReadable context (vals.Ref reference) → SpellsRefType config limit reference piece
    → ref_type_at config context false limit (piece ++ after) ≡ (reference, after)
unfolding ref_type_at
ref_type_read config context limit reference piece after stands h =
    let parts = h.form in
    let read = heap_type_read config context.types limit reference.heap_type parts.first (parts.second ++ after) stands.0 parts.is_first in
    let granted = granted_read config context reference.heap_type reference.nullable parts.second after stands.1 parts.is_second in
    rw (joined_parts parts after) (drawn_where config.reference_types_enabled _ _ reference after h.enabled
    (rw (read, granted, not_twice reference.nullable) refl))

rest_read : (config : Config) (context : Context) (limit : ℕ) (value : ValType) (piece after : List ℕ) → IsReadable context value
    → SpellsAfterClass config limit value piece
    → value_of_class_at config context false limit (class_of value) (piece ++ after) ≡ (value, after)
rest_read config context limit vals.I32 piece after stands h = rw h refl
rest_read config context limit vals.I64 piece after stands h = rw h refl
rest_read config context limit vals.F32 piece after stands h = rw h refl
rest_read config context limit vals.F64 piece after stands h = rw h refl
rest_read config context limit vals.V128 piece after stands h = rw h refl
rest_read config context limit (vals.Ref reference) piece after stands h =
    rw (ref_type_read config context limit reference piece after stands h) refl

pub val_type_read : (config : Config) (context : Context) (limit : ℕ) (value : ValType) (piece after : List ℕ) → IsReadable context value
    → SpellsValType config limit value piece
    → val_type_at config context false limit (piece ++ after) ≡ (value, after)
unfolding val_type_at SpellsValType
val_type_read config context limit value piece after stands h =
    rw (joined_parts h after, chosen_read I32 (enabled (value_classes config)) (class_of value) h.first (h.second ++ after) h.is_first)
    (rest_read config context limit value h.second after stands h.is_second)
