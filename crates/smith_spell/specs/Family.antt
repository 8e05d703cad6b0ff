-- The family: the lists of types and functions that a generator must reach, for a sanitised
-- configuration. A rule of this project. Theorems state that for each member there are bytes from
-- which it is drawn.
use Rattle.std.specs.Prelude.{◌≡◌, ℕ, ◌<◌, ◌≤◌, ◌⊎◌, false, IsTrue, List, Some, None, length, slice_get, take, All}
use Rattle.std.specs.List.{Contains}
use Rattle.smith_types.specs.Entities.{IsFuncTypeIndex}
use Rattle.smith_types.specs.Grounded.{IsGroundedByStructs}
use Rattle.smith_types.specs.Syntax.value_type.HeapType.{HeapType}
use Rattle.smith_types.specs.Syntax.value_type.HeapType.TheVariants.{Abstract, Concrete, Exact}
use Rattle.smith_types.specs.Syntax.value_type.RefType.{RefType}
use Rattle.smith_types.specs.Syntax.value_type.ValType.{ValType}
use Rattle.smith_types.specs.Syntax.value_type.ValType.TheVariants.{I32, I64, F32, F64, V128, Ref}
use Rattle.smith_types.specs.Syntax.composite_type.StorageType.{StorageType}
use Rattle.smith_types.specs.Syntax.composite_type.StorageType.TheVariants.{I8, I16, Val}
use Rattle.smith_types.specs.Syntax.composite_type.FieldType.{FieldType}
use Rattle.smith_types.specs.Syntax.composite_type.FuncType.{FuncType}
use Rattle.smith_types.specs.Syntax.composite_type.CompositeInnerType.{CompositeInnerType}
use Rattle.smith_types.specs.Syntax.composite_type.CompositeInnerType.TheVariants.{Array, Func, Struct}
use Rattle.smith_types.specs.Syntax.composite_type.SubType.{SubType}
use Rattle.smith_config.specs.declared.config.Config.{Config}
use Rattle.smith_config.specs.Shapes.{space_of}
use Rattle.smith_draw_types.specs.Choices.{enabled}
use Rattle.smith_draw_types.specs.ValueTypes.{abstract_heap_types}
use Rattle.smith_draw_types.specs.CompositeTypes.{most_results}

-- a heap type is allowed in a type after `before`: it is an abstract heap type that can be drawn,
-- unshared, or one of these types
abbrev pub IsMemberHeapType : Config → List SubType → HeapType → Type 0
IsMemberHeapType config before (Abstract shared ty) = (shared ≡ false) × Contains (enabled (abstract_heap_types config)) ty
IsMemberHeapType config before (Concrete index) = IsTrue config.gc_enabled × (index < length before)
IsMemberHeapType config before (Exact index) = ⊥

-- a reference type is nullable; or non-nullable references are enabled, and one of the types
-- `before` grounds its heap type: a struct type below it whose fields all have defaults
abbrev pub IsMemberNullability : Config → List SubType → RefType → Type 0
IsMemberNullability config before reference =
    IsTrue reference.nullable ⊎ (IsTrue config.non_nullable_enabled × IsGroundedByStructs before config.custom_descriptors_enabled
    reference.heap_type)

-- a value type is allowed in a type after `before`: an enabled number or vector type, or a
-- reference type
abbrev pub IsMemberValType : Config → List SubType → ValType → Type 0
IsMemberValType config before I32 = Unit {0}
IsMemberValType config before I64 = Unit {0}
IsMemberValType config before F32 = IsTrue config.allow_floats
IsMemberValType config before F64 = IsTrue config.allow_floats
IsMemberValType config before V128 = IsTrue config.simd_enabled
IsMemberValType config before (Ref reference) =
    IsTrue config.reference_types_enabled × IsMemberHeapType config before reference.heap_type × IsMemberNullability config before reference

-- a storage type is allowed in a type after `before`
abbrev pub IsMemberStorage : Config → List SubType → StorageType → Type 0
IsMemberStorage config before I8 = Unit {0}
IsMemberStorage config before I16 = Unit {0}
IsMemberStorage config before (Val value) = IsMemberValType config before value

-- a field type is allowed in a type after `before`
abbrev pub IsMemberField : Config → List SubType → FieldType → Type 0
IsMemberField config before field = IsMemberStorage config before field.element_type

-- a function type is allowed after `before`: it has at most 20 parameters, and at most 20 results,
-- or 1 without multi-value
pub record IsMemberFunction (config : Config) (before : List SubType) (function : FuncType) : Type 0 where
  pub few_params : length function.params ≤ 20
  pub few_results : length function.results ≤ most_results config
  pub params : All (IsMemberValType config before) function.params
  pub results : All (IsMemberValType config before) function.results

-- a composite type is allowed after `before`: a function type, or with garbage collection an array
-- type or a struct type with at most 20 fields
abbrev pub IsMemberInner : Config → List SubType → CompositeInnerType → Type 0
IsMemberInner config before (Array array) = IsTrue config.gc_enabled × IsMemberField config before array.0
IsMemberInner config before (Func function) = IsMemberFunction config before function
IsMemberInner config before (Struct structure) = IsTrue config.gc_enabled × (length structure.fields ≤ 20)
    × All (IsMemberField config before) structure.fields

-- a type is allowed after `before`: it is unshared, has no supertype, and is final without garbage
-- collection
pub record IsMemberType (config : Config) (before : List SubType) (t : SubType) : Type 0 where
  pub unshared : t.composite_type.shared ≡ false
  pub root : t.supertype ≡ None
  pub final : config.gc_enabled ≡ false → IsTrue t.is_final
  pub inner : IsMemberInner config before t.composite_type.inner

-- groups of types, each type allowed after the types with smaller indices, and functions of these
-- types; no group is empty, and without garbage collection each group has one type
pub record IsInFamily (config : Config) (groups : List (List SubType)) (funcs : List ℕ) : Type 0 where
  pub filled : All (λ (group : List SubType). 0 < length group) groups
  pub single : config.gc_enabled ≡ false → All (λ (group : List SubType). length group ≡ 1) groups
  pub few_types : length (space_of groups).types ≤ config.max_types
  pub each_type : (index : ℕ) (t : SubType) → slice_get (space_of groups).types index ≡ Some t
      → IsMemberType config (take index (space_of groups).types) t
  pub few_funcs : length funcs ≤ config.max_funcs
  pub each_func : All (IsFuncTypeIndex (space_of groups).types) funcs
