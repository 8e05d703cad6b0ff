-- Valid types. Type validation, in the section Validation, Types, of the WebAssembly Core
-- Specification 3.0. The conditions on features and sharedness are rules of this project. Matching
-- follows the own rules of `Subtyping`.
use Rattle.std.specs.Prelude.{◌≡◌, ℕ, ◌+◌, ◌<◌, ◌≤◌, false, IsTrue, List, [], ◌∷◌, ◌++◌, slice_get, Some, All}
use Rattle.smith_types.specs.Common.{Abstract, Array, CompositeInnerType, Concrete, Exact, F32, F64, Features, FieldType, flat_map, Func}
use Rattle.smith_types.specs.Common.{FuncType, HeapType, I16, I32, I64, I8, Range, Ref, RefType, StorageType, Struct, SubType, V128, Val}
use Rattle.smith_types.specs.Common.{ValType}
use Rattle.smith_types.specs.GroupedTypes.{GroupedTypes}
use Rattle.smith_types.specs.Types.{IsOrderly, AreCovered}
use Rattle.smith_types.specs.Matching.{IsCompositeMatch}
use Rattle.smith_types.specs.Flags.{IsHeapTypeEnabled, IsInnerEnabled, IsSubTypeEnabled}

-- a heap type is valid: it refers only to types below `end` (Validation, Heap Types), and is
-- enabled (own rule)
abbrev pub IsHeapTypeValid : Features → ℕ → HeapType → Type 0
IsHeapTypeValid features end (Abstract shared ty) = IsHeapTypeEnabled features (Abstract shared ty)
IsHeapTypeValid features end (Concrete index) = IsHeapTypeEnabled features (Concrete index) × (index < end)
IsHeapTypeValid features end (Exact index) = IsHeapTypeEnabled features (Exact index) × (index < end)

-- a reference type has a valid heap type (Validation, Reference Types); a non-nullable reference
-- requires its feature (own rule)
pub record IsRefTypeValid (features : Features) (end : ℕ) (reference : RefType) : Type 0 where
  pub heap_type : IsHeapTypeValid features end reference.heap_type
  pub nullable : reference.nullable ≡ false → IsTrue features.function_references

-- a value type is valid (Validation, Value Types); vectors and references require their features
-- (own rule)
abbrev pub IsValTypeValid : Features → ℕ → ValType → Type 0
IsValTypeValid features end I32 = Unit {0}
IsValTypeValid features end I64 = Unit {0}
IsValTypeValid features end F32 = Unit {0}
IsValTypeValid features end F64 = Unit {0}
IsValTypeValid features end V128 = IsTrue features.simd
IsValTypeValid features end (Ref reference) = IsTrue features.reference_types × IsRefTypeValid features end reference

-- the value type of a storage type, or nothing for a packed type (Structure, Composite Types)
abbrev pub values_of_storage : StorageType → List ValType
values_of_storage I8 = []
values_of_storage I16 = []
values_of_storage (Val value) = value ∷ []

-- the value types in a composite type (Structure, Composite Types)
abbrev pub values_of : CompositeInnerType → List ValType
values_of (Array array) = values_of_storage array.0.element_type
values_of (Func function) = function.params ++ function.results
values_of (Struct structure) = flat_map (λ (field : FieldType). values_of_storage field.element_type) structure.fields

-- a heap type is shared; a concrete or exact type is shared if the type at its index is (own rule)
abbrev pub IsHeapTypeShared : List SubType → HeapType → Type 0
IsHeapTypeShared types (Abstract shared ty) = IsTrue shared
IsHeapTypeShared types (Concrete index) = (t : SubType) × (slice_get types index ≡ Some t) × IsTrue t.composite_type.shared
IsHeapTypeShared types (Exact index) = (t : SubType) × (slice_get types index ≡ Some t) × IsTrue t.composite_type.shared

-- a value type may occur in a shared type: any type except an unshared reference (own rule)
abbrev pub IsShareable : List SubType → ValType → Type 0
IsShareable types (Ref reference) = IsHeapTypeShared types reference.heap_type
IsShareable types _ = Unit {0}

-- the parameters and results of a function type are valid (Validation, Composite Types), and the
-- function type is enabled (own rule)
pub record IsFuncTypeValid (features : Features) (end : ℕ) (function : FuncType) : Type 0 where
  pub results : IsInnerEnabled features (Func function)
  pub params_valid : All (IsValTypeValid features end) function.params
  pub results_valid : All (IsValTypeValid features end) function.results

-- a declared supertype is not final, and its subtype matches it (Validation, Recursive Types)
pub record IsSupertypeValid (types : List SubType) (t supertype : SubType) : Type 0 where
  pub not_final : supertype.is_final ≡ false
  pub matched : IsCompositeMatch types t.composite_type supertype.composite_type

-- a type is valid in a group that ends at `end`: it refers only to types below `end`, and matches
-- its declared supertype, which exists (Validation, Recursive Types). It is enabled, and a shared
-- type holds only values that may be shared (own rules).
pub record IsTypeValid (features : Features) (types : List SubType) (end : ℕ) (t : SubType) : Type 0 where
  pub enabled : IsSubTypeEnabled features t
  pub values : All (IsValTypeValid features end) (values_of t.composite_type.inner)
  pub declared : (s : ℕ) → t.supertype ≡ Some s → (u : SubType) × (slice_get types s ≡ Some u) × IsSupertypeValid types t u
  pub shareable : IsTrue t.composite_type.shared → All (IsShareable types) (values_of t.composite_type.inner)

-- each type of a group is valid (Validation, Recursive Types); without garbage collection, a group
-- has exactly one type (own rule)
pub record IsGroupValid (features : Features) (types : List SubType) (group : Range ℕ) : Type 0 where
  pub members : (i : ℕ) (t : SubType) → group.start ≤ i → i < group.end → slice_get types i ≡ Some t
      → IsTypeValid features types group.end t
  pub single : features.gc ≡ false → group.end ≡ group.start + 1

-- consecutive groups of valid types cover the types, and each supertype precedes its subtypes
-- (Validation, Modules)
pub record AreTypesValid (features : Features) (space : GroupedTypes) : Type 0 where
  pub covered : AreCovered space.types space.groups
  pub orderly : IsOrderly space.types
  pub groups : All (IsGroupValid features space.types) space.groups
