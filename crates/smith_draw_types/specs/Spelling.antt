-- Bytes that spell types. Rules of this project. Only unshared types without supertypes can be
-- spelled.
use Rattle.std.specs.Prelude.{◌≡◌, ℕ, ◌<◌, ◌≤◌, ◌+◌, ◌-◌, ◌&&◌, ◌⊎◌, Bool, true, false, not, nat_lt, IsTrue, List, [], ◌∷◌, ◌++◌, Some}
use Rattle.std.specs.Prelude.{None, length, slice_get}
use Rattle.smith_draw_types.specs.Common.{Abstract, Array, CompositeInnerType, CompositeType, Concrete, Config, Exact, FieldType, Func}
use Rattle.smith_draw_types.specs.Common.{FuncType, HeapType, I16, I8, Joined, list_any, RefType, SpellsBool, SpellsNumber, StorageType}
use Rattle.smith_draw_types.specs.Common.{Struct, StructType, SubType, Val, ValType, Where}
use Rattle.std.specs.List.{All}
use Rattle.smith_bytes.specs.Spelling.{Each, Listed, SpellsRefusal}
use Rattle.smith_types.specs.Syntax.value_type.ValType.TheVariants as vals
use Rattle.smith_types.specs.Grounded.{IsGroundedByStructs}
use Rattle.smith_types.specs.GroupedTypes.{GroupedTypes}
use Rattle.smith_types.specs.Subtyping.{IsInRange}
use Rattle.smith_types.specs.ValidTypes.{values_of}
use Rattle.smith_config.specs.Shapes.{space_of}
use Rattle.smith_draw_types.specs.declared.value_type.ValueClass.{ValueClass}
use Rattle.smith_draw_types.specs.declared.value_type.ValueClass.TheVariants.{I32, I64, F32, F64, V128, Reference}
use Rattle.smith_draw_types.specs.Choices.{enabled}
use Rattle.smith_draw_types.specs.ValueTypes.{value_classes, abstract_heap_types}
use Rattle.smith_draw_types.specs.CompositeTypes.{most_results}
use Rattle.smith_draw_types.specs.RecGroups.{with_group}

-- an item, by its position in a list
pub record SpellsPlace {A : Type 0} (items : List A) (item : A) (piece : List ℕ) : Type 0 where
  pub place : ℕ
  pub stands : slice_get items place ≡ Some item
  pub number : SpellsNumber place 0 (length items - 1) piece

-- the choice of an unshared type, if types may be shared
abbrev pub SpellsUnshared : Config → List ℕ → Type 0
SpellsUnshared config = Where config.shared_everything_threads_enabled (SpellsRefusal 4)

-- whether a heap type is concrete, if there is a type below the limit
abbrev pub SpellsConcrete : Config → ℕ → Bool → List ℕ → Type 0
SpellsConcrete config limit concrete = Where (config.gc_enabled && nat_lt 0 limit) (SpellsBool concrete)

-- a heap type: that it is concrete, and its index; or that it is abstract and unshared, and its
-- position
abbrev pub SpellsHeapType : Config → ℕ → HeapType → List ℕ → Type 0
SpellsHeapType config limit (Abstract shared ty) piece =
    (shared ≡ false)
    × Joined (SpellsConcrete config limit false) (Joined (SpellsUnshared config) (SpellsPlace (enabled (abstract_heap_types config)) ty))
    piece
SpellsHeapType config limit (Concrete index) piece =
    IsTrue (config.gc_enabled && nat_lt index limit) × Joined (SpellsConcrete config limit true) (SpellsNumber index 0 (limit - 1)) piece
SpellsHeapType config limit (Exact index) piece = ⊥

-- whether a reference is non-nullable, if non-nullable references are possible; else it is nullable
abbrev pub SpellsNullable : Bool → Bool → List ℕ → Type 0
SpellsNullable true nullable piece = SpellsBool (not nullable) piece
SpellsNullable false nullable piece = IsTrue nullable × (piece ≡ [])

-- a reference type, if reference types are enabled: its heap type, then whether it is non-nullable
pub record SpellsRefType (config : Config) (limit : ℕ) (reference : RefType) (piece : List ℕ) : Type 0 where
  pub enabled : IsTrue config.reference_types_enabled
  pub form : Joined (SpellsHeapType config limit reference.heap_type) (SpellsNullable config.non_nullable_enabled reference.nullable) piece

-- the class of a value type
abbrev pub class_of : ValType → ValueClass
class_of vals.I32 = I32
class_of vals.I64 = I64
class_of vals.F32 = F32
class_of vals.F64 = F64
class_of vals.V128 = V128
class_of (vals.Ref reference) = Reference

-- the bytes after the class of a value type: for a reference, its reference type
abbrev pub SpellsAfterClass : Config → ℕ → ValType → List ℕ → Type 0
SpellsAfterClass config limit (vals.Ref reference) piece = SpellsRefType config limit reference piece
SpellsAfterClass config limit _ piece = piece ≡ []

-- a value type: the position of its class, and the bytes after it
unfoldable pub SpellsValType : Config → ℕ → ValType → List ℕ → Type 0
SpellsValType config limit value = Joined (SpellsPlace (enabled (value_classes config)) (class_of value))
    (SpellsAfterClass config limit value)

-- a storage type: its number, and the value type unless it is packed
abbrev pub SpellsStorage : Config → ℕ → StorageType → List ℕ → Type 0
SpellsStorage config limit I8 piece = SpellsNumber 0 0 2 piece
SpellsStorage config limit I16 piece = SpellsNumber 1 0 2 piece
SpellsStorage config limit (Val value) piece = Joined (SpellsNumber 2 0 2) (SpellsValType config limit value) piece

-- a storage type, then whether the field is mutable
unfoldable pub SpellsField : Config → ℕ → FieldType → List ℕ → Type 0
SpellsField config limit field = Joined (SpellsStorage config limit field.element_type) (SpellsBool field.mutable)

-- parameters, then results
unfoldable pub SpellsFuncType : Config → ℕ → FuncType → List ℕ → Type 0
SpellsFuncType config limit function =
    Joined (Listed (SpellsValType config limit) 20 function.params)
    (Listed (SpellsValType config limit) (most_results config) function.results)

-- the number of fields, then the fields
unfoldable pub SpellsStructType : Config → ℕ → StructType → List ℕ → Type 0
SpellsStructType config limit structure =
    Joined (SpellsNumber (length structure.fields) 0 20) (Each (SpellsField config limit) structure.fields)

-- with garbage collection: the number of a kind, then a type of that kind
abbrev pub SpellsInner : Config → ℕ → CompositeInnerType → List ℕ → Type 0
SpellsInner config limit (Array array) piece = Joined (SpellsNumber 0 0 2) (SpellsField config limit array.0) piece
SpellsInner config limit (Func function) piece = Joined (SpellsNumber 1 0 2) (SpellsFuncType config limit function) piece
SpellsInner config limit (Struct structure) piece = Joined (SpellsNumber 2 0 2) (SpellsStructType config limit structure) piece

-- without garbage collection: the parameters and results of a function type
abbrev pub SpellsPlainFunction : Config → ℕ → CompositeInnerType → List ℕ → Type 0
SpellsPlainFunction config limit (Func function) piece = SpellsFuncType config limit function piece
SpellsPlainFunction config limit _ piece = ⊥

-- an unshared composite type, with or without garbage collection
abbrev pub SpellsKind : Bool → Config → ℕ → CompositeInnerType → List ℕ → Type 0
SpellsKind true config limit inner piece = SpellsInner config limit inner piece
SpellsKind false config limit inner piece = SpellsPlainFunction config limit inner piece

-- a composite type: that it is unshared, then the type
pub record SpellsCompositeType (config : Config) (limit : ℕ) (composite : CompositeType) (piece : List ℕ) : Type 0 where
  pub unshared : composite.shared ≡ false
  pub form : Joined (SpellsUnshared config) (SpellsKind config.gc_enabled config limit composite.inner) piece

-- whether a type may be a supertype: it is not final
abbrev pub is_open : SubType → Bool
is_open t = not t.is_final

-- with garbage collection: that the type has no declared supertype, whether it is final, that it is
-- unshared, and its composite type
abbrev pub SpellsDeclared : Config → List SubType → ℕ → SubType → List ℕ → Type 0
SpellsDeclared config before limit t =
    Joined (Where (list_any is_open before) (SpellsRefusal 32))
    (Joined (SpellsBool t.is_final) (Joined (SpellsUnshared config) (SpellsInner config limit t.composite_type.inner)))

-- a type after the types `before`, with or without garbage collection
abbrev pub SpellsForm : Bool → Config → List SubType → ℕ → SubType → List ℕ → Type 0
SpellsForm true config before limit t piece = SpellsDeclared config before limit t piece
SpellsForm false config before limit t piece = IsTrue t.is_final × SpellsPlainFunction config limit t.composite_type.inner piece

-- a type after the types `before`, in a group that ends at `limit`
pub record SpellsSubType (config : Config) (before : List SubType) (limit : ℕ) (t : SubType) (piece : List ℕ) : Type 0 where
  pub root : t.supertype ≡ None
  pub unshared : t.composite_type.shared ≡ false
  pub form : SpellsForm config.gc_enabled config before limit t piece

-- types in order
unfoldable pub SpellsSubTypes : Config → List SubType → ℕ → List SubType → List ℕ → Type 0
SpellsSubTypes config before limit [] piece = piece ≡ []
SpellsSubTypes config before limit (t ∷ types) piece = Joined (SpellsSubType config before limit t)
    (SpellsSubTypes config (before ++ t ∷ []) limit types) piece

-- the size of a group; with garbage collection, before it that no group is cloned, if there is a
-- group
abbrev pub SpellsSize : Bool → Config → Bool → ℕ → ℕ → List ℕ → Type 0
SpellsSize true config stands room size piece = Joined (Where stands (SpellsRefusal 255)) (SpellsNumber size 0 room) piece
SpellsSize false config stands room size piece = (size ≡ 1) × (piece ≡ [])

-- the size of a group, then its types
unfoldable pub SpellsGroup : Config → List SubType → Bool → List SubType → List ℕ → Type 0
SpellsGroup config before stands group =
    Joined (SpellsSize config.gc_enabled config stands (config.max_types - length before) (length group))
    (SpellsSubTypes config before (length before + length group) group)

-- groups, each after a true bool, then a false bool if there is room for more
unfoldable pub SpellsGroups : Config → List SubType → Bool → List (List SubType) → List ℕ → Type 0
SpellsGroups config before stands [] piece = Where (nat_lt (length before) config.max_types) (SpellsBool false) piece
SpellsGroups config before stands (group ∷ groups) piece =
    Joined (SpellsBool true) (Joined (SpellsGroup config before stands group) (SpellsGroups config (before ++ group) true groups)) piece

-- a type without a supertype
abbrev pub IsRoot : SubType → Type 0
IsRoot t = t.supertype ≡ None

-- a value type refers only to these types, and a struct type among them grounds it if it is a
-- non-nullable reference
abbrev pub RefersTo : Config → List SubType → ValType → Type 0
RefersTo config types (vals.Ref reference) =
    IsInRange types reference.heap_type × (IsTrue reference.nullable ⊎ IsGroundedByStructs types config.custom_descriptors_enabled
    reference.heap_type)
RefersTo config types _ = Unit {0}

-- each type refers only to types before it, which ground its non-nullable references
abbrev pub ReferBack : Config → List SubType → List SubType → Type 0
ReferBack config before [] = Unit {0}
ReferBack config before (t ∷ types) = All (RefersTo config before) (values_of t.composite_type.inner) × ReferBack config (before ++ t ∷ [])
    types

-- no group is empty, there is room for all groups, and each type refers only to types before it,
-- which ground its non-nullable references
abbrev pub GroupsFit : Config → List SubType → List (List SubType) → Type 0
GroupsFit config before [] = Unit {0}
GroupsFit config before (group ∷ groups) =
    (0 < length group) × (length before + length group ≤ config.max_types) × ReferBack config before group
    × GroupsFit config (before ++ group) groups

-- a space with one more group, whose types refer only to types before them, which ground their
-- non-nullable references
pub record SpellsAdded (config : Config) (before space : GroupedTypes) (piece : List ℕ) : Type 0 where
  pub added : List SubType
  pub is_after : space ≡ with_group (before.types ++ added) before.groups
  pub back : ReferBack config before.types added
  pub spelled : SpellsGroup config before.types (nat_lt 0 (length before.groups)) added piece

-- a space of groups that fit
pub record SpellsSpace (config : Config) (space : GroupedTypes) (piece : List ℕ) : Type 0 where
  pub parts : List (List SubType)
  pub is_of : space ≡ space_of parts
  pub fit : GroupsFit config [] parts
  pub spelled : SpellsGroups config [] false parts piece
