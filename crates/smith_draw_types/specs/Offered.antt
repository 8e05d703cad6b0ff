-- The subtypes and supertypes that may be drawn in place of a heap type.
use Rattle.std.specs.Prelude.{◌≡◌, ℕ, zero, suc, ◌+◌, Bool, true, false, not, ◌&&◌, Option, Some, None, List, [], ◌∷◌, ◌++◌, map, length}
use Rattle.std.specs.Prelude.{slice_get, if◌then◌else◌}
use Rattle.std.specs.List.{flat_map}
use Rattle.smith_draw_types.specs.Common.{Abstract, AbstractHeapType, Array, CompositeInnerType, Concrete, Config, Exact, Func, HeapType}
use Rattle.smith_draw_types.specs.Common.{shared, Struct, SubType}
use Rattle.smith_types.specs.Syntax.value_type.AbstractHeapType.TheVariants as heap
use Rattle.smith_types.specs.Syntax.Kinds.{bottom}
use Rattle.smith_types.specs.Types.{IsOrderly}
use Rattle.smith_types.specs.Families.{is_directly_below}
use Rattle.smith_types.specs.Grounds.{is_shared_as}

-- the abstract heap types that are offered as subtypes of an abstract heap type, including itself
-- (own rule)
abbrev pub abstract_subtypes : AbstractHeapType → List AbstractHeapType
abstract_subtypes heap.Any = heap.Any ∷ heap.Eq ∷ heap.Struct ∷ heap.Array ∷ heap.I31 ∷ heap.None ∷ []
abstract_subtypes heap.Eq = heap.Eq ∷ heap.Struct ∷ heap.Array ∷ heap.I31 ∷ heap.None ∷ []
abstract_subtypes heap.Struct = heap.Struct ∷ heap.Struct ∷ heap.None ∷ []
abstract_subtypes heap.Array = heap.Array ∷ heap.Array ∷ heap.None ∷ []
abstract_subtypes heap.I31 = heap.I31 ∷ heap.None ∷ []
abstract_subtypes heap.None = heap.None ∷ []
abstract_subtypes heap.Func = heap.Func ∷ heap.NoFunc ∷ []
abstract_subtypes heap.NoFunc = heap.NoFunc ∷ []
abstract_subtypes heap.Extern = heap.Extern ∷ heap.NoExtern ∷ []
abstract_subtypes heap.NoExtern = heap.NoExtern ∷ []
abstract_subtypes heap.Exn = heap.Exn ∷ []
abstract_subtypes heap.NoExn = heap.NoExn ∷ []

-- the abstract heap types that are offered as supertypes of an abstract heap type, including itself
-- (own rule)
abbrev pub abstract_supertypes : AbstractHeapType → List AbstractHeapType
abstract_supertypes heap.Any = heap.Any ∷ []
abstract_supertypes heap.Eq = heap.Eq ∷ heap.Any ∷ []
abstract_supertypes heap.Struct = heap.Struct ∷ heap.Any ∷ heap.Eq ∷ []
abstract_supertypes heap.Array = heap.Array ∷ heap.Any ∷ heap.Eq ∷ []
abstract_supertypes heap.I31 = heap.I31 ∷ heap.Any ∷ heap.Eq ∷ []
abstract_supertypes heap.None = heap.None ∷ heap.Any ∷ heap.Eq ∷ heap.Struct ∷ heap.Array ∷ heap.I31 ∷ []
abstract_supertypes heap.Func = heap.Func ∷ []
abstract_supertypes heap.NoFunc = heap.NoFunc ∷ heap.Func ∷ []
abstract_supertypes heap.Extern = heap.Extern ∷ []
abstract_supertypes heap.NoExtern = heap.NoExtern ∷ heap.Extern ∷ []
abstract_supertypes heap.Exn = heap.Exn ∷ []
abstract_supertypes heap.NoExn = heap.NoExn ∷ heap.Exn ∷ []

-- the abstract heap types that are offered as supertypes of a composite type (own rule)
abbrev pub supertypes_of_inner : CompositeInnerType → List AbstractHeapType
supertypes_of_inner (Array a) = heap.Any ∷ heap.Eq ∷ heap.Array ∷ []
supertypes_of_inner (Struct s) = heap.Any ∷ heap.Eq ∷ heap.Struct ∷ []
supertypes_of_inner (Func f) = heap.Func ∷ []

-- the kinds whose concrete types are offered as subtypes of an abstract heap type (own rule)
abbrev pub kinds_below : AbstractHeapType → List AbstractHeapType
kinds_below heap.Any = heap.Array ∷ heap.Struct ∷ []
kinds_below heap.Eq = heap.Array ∷ heap.Struct ∷ []
kinds_below heap.Struct = heap.Struct ∷ []
kinds_below heap.Array = heap.Array ∷ []
kinds_below heap.Func = heap.Func ∷ []
kinds_below _ = []

-- the kinds whose concrete types are offered as supertypes of an abstract heap type (own rule)
abbrev pub kinds_above : AbstractHeapType → List AbstractHeapType
kinds_above heap.None = heap.Array ∷ heap.Struct ∷ []
kinds_above heap.NoFunc = heap.Func ∷ []
kinds_above _ = []

-- whether a composite type has this kind (Validation, Matching, Heap Types)
abbrev pub is_of_kind : AbstractHeapType → CompositeInnerType → Bool
is_of_kind heap.Array (Array a) = true
is_of_kind heap.Struct (Struct s) = true
is_of_kind heap.Func (Func f) = true
is_of_kind _ _ = false

-- whether a type has this kind and sharedness (own rule)
abbrev pub is_kind : Bool → AbstractHeapType → SubType → Bool
is_kind is_shared kind t = is_shared_as is_shared t && is_of_kind kind t.composite_type.inner

-- the concrete heap types of the types that pass a test, by index; the first type has the index
-- `start` (own rule)
abbrev pub picked_from : (SubType → Bool) → ℕ → List SubType → List HeapType
picked_from test start [] = []
picked_from test start (t ∷ types) = if test t then Concrete start ∷ picked_from test (start + 1) types else picked_from test
    (start + 1) types

-- the concrete heap types of these kinds, kind by kind, each by index (own rule)
abbrev pub of_kinds : List SubType → Bool → List AbstractHeapType → List HeapType
of_kinds types is_shared kinds = flat_map (λ kind. picked_from (is_kind is_shared kind) 0 types) kinds

-- the types that declare the type at this index as their supertype, by index (own rule)
abbrev pub offered_direct_subtypes : List SubType → ℕ → List HeapType
offered_direct_subtypes types index = picked_from (is_directly_below index) 0 types

-- the declared supertype of a type, if both exist (Structure, Recursive Types)
abbrev pub supertype_of : Option SubType → Option ℕ
supertype_of None = None
supertype_of (Some t) = t.supertype

-- the declared supertype of the type at this index, if it exists and has one (Structure, Recursive
-- Types)
abbrev pub supertype_at : List SubType → ℕ → Option ℕ
supertype_at types index = supertype_of (slice_get types index)

-- the `most` nearest proper supertypes of the type at this index, nearest first (own rule)
abbrev pub ancestors_within : ℕ → List SubType → ℕ → List HeapType
ancestors_within zero types index = []
ancestors_within (suc most) types index =
    elim (supertype_at types index) [ None ↦ [] | Some supertype ↦ Concrete supertype ∷ ancestors_within most types supertype ]

-- the proper supertypes of the type at this index, nearest first, at most as many as there are
-- types (own rule)
unfoldable pub ancestors : List SubType → ℕ → List HeapType
ancestors types index = ancestors_within (length types) types index

-- if supertypes precede their subtypes, no proper supertype is missing: the first is the declared
-- supertype, and the others are its proper supertypes
abbrev pub AncestorsAreAll : Type 0
AncestorsAreAll = (types : List SubType) → IsOrderly types → (index supertype : ℕ) → supertype_at types index ≡ Some supertype
    → ancestors types index ≡ Concrete supertype ∷ ancestors types supertype

-- the heap types that are offered for a type, or none if the type does not exist (own rule)
abbrev pub of_standing : (SubType → List HeapType) → Option SubType → List HeapType
of_standing offers None = []
of_standing offers (Some t) = offers t

-- the bottom type of a type, if the type exists (own rule)
abbrev pub bottom_at : List SubType → ℕ → List HeapType
bottom_at types index = of_standing (λ t. Abstract (shared t) (bottom t) ∷ []) (slice_get types index)

-- the abstract supertypes of a type, if the type exists (own rule)
abbrev pub kinds_at : List SubType → ℕ → List HeapType
kinds_at types index = of_standing (λ t. map (Abstract (shared t)) (supertypes_of_inner t.composite_type.inner)) (slice_get types index)

-- with custom descriptors, the exact type, and the direct subtypes again (own rule)
abbrev pub exact_subtypes : Config → List SubType → ℕ → List HeapType
exact_subtypes config types index = if config.custom_descriptors_enabled then Exact index ∷ offered_direct_subtypes types index else []

-- the subtypes that are offered with garbage collection, the heap type itself first (own rule)
abbrev pub gc_subtypes : Config → List SubType → HeapType → List HeapType
gc_subtypes config types (Abstract is_shared ty) = map (Abstract is_shared) (abstract_subtypes ty) ++ of_kinds types is_shared
    (kinds_below ty)
gc_subtypes config types (Concrete index) = Concrete index ∷ offered_direct_subtypes types index ++
    (exact_subtypes config types index ++ bottom_at types index)
gc_subtypes config types (Exact index) = Exact index ∷ []

-- the supertypes that are offered with garbage collection, the heap type itself first (own rule)
abbrev pub gc_supertypes : List SubType → HeapType → List HeapType
gc_supertypes types (Abstract is_shared ty) = map (Abstract is_shared) (abstract_supertypes ty) ++ of_kinds types is_shared (kinds_above ty)
gc_supertypes types (Concrete index) = Concrete index ∷ kinds_at types index ++ ancestors types index
gc_supertypes types (Exact index) = Exact index ∷ []

-- the subtypes that are offered for a heap type; without garbage collection, only itself (own rule)
unfoldable pub subtypes_offered : Config → List SubType → HeapType → List HeapType
subtypes_offered config types ty = if config.gc_enabled then gc_subtypes config types ty else ty ∷ []

-- the supertypes that are offered for a heap type; without garbage collection, only itself (own
-- rule)
unfoldable pub supertypes_offered : Config → List SubType → HeapType → List HeapType
supertypes_offered config types ty = if config.gc_enabled then gc_supertypes types ty else ty ∷ []
