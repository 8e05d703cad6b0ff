-- Types with each type index replaced, as rolled groups and canonical types have them: the section
-- Validation, Conventions, Rolling and Unrolling, of the WebAssembly Core Specification 3.0.
use Rattle.std.specs.Prelude.{ℕ, Option, Some, None, map}
use Rattle.smith_types.specs.Syntax.value_type.HeapType.{HeapType}
use Rattle.smith_types.specs.Syntax.value_type.HeapType.TheVariants.{Abstract, Concrete, Exact}
use Rattle.smith_types.specs.Syntax.value_type.RefType.{RefType}
use Rattle.smith_types.specs.Syntax.value_type.ValType.{ValType}
use Rattle.smith_types.specs.Syntax.value_type.ValType.TheVariants.{I32, I64, F32, F64, V128, Ref}
use Rattle.smith_types.specs.Syntax.composite_type.StorageType.{StorageType}
use Rattle.smith_types.specs.Syntax.composite_type.StorageType.TheVariants.{I8, I16, Val}
use Rattle.smith_types.specs.Syntax.composite_type.FieldType.{FieldType}
use Rattle.smith_types.specs.Syntax.composite_type.CompositeInnerType.{CompositeInnerType}
use Rattle.smith_types.specs.Syntax.composite_type.CompositeInnerType.TheVariants.{Array, Func, Struct}
use Rattle.smith_types.specs.Syntax.composite_type.SubType.{SubType}

-- a heap type with its type index replaced by `name` (Structure, Heap Types)
abbrev pub renamed_heap : (ℕ → ℕ) → HeapType → HeapType
renamed_heap name (Abstract shared ty) = Abstract shared ty
renamed_heap name (Concrete index) = Concrete (name index)
renamed_heap name (Exact index) = Exact (name index)

-- a reference type with its type index replaced by `name` (Structure, Reference Types)
abbrev pub renamed_ref : (ℕ → ℕ) → RefType → RefType
renamed_ref name reference = record reference { heap_type = renamed_heap name reference.heap_type }

-- a value type with its type index replaced by `name` (Structure, Value Types)
abbrev pub renamed_val : (ℕ → ℕ) → ValType → ValType
renamed_val name I32 = I32
renamed_val name I64 = I64
renamed_val name F32 = F32
renamed_val name F64 = F64
renamed_val name V128 = V128
renamed_val name (Ref reference) = Ref (renamed_ref name reference)

-- a storage type with its type index replaced by `name` (Structure, Composite Types)
abbrev pub renamed_storage : (ℕ → ℕ) → StorageType → StorageType
renamed_storage name I8 = I8
renamed_storage name I16 = I16
renamed_storage name (Val value) = Val (renamed_val name value)

-- a field type with its type index replaced by `name` (Structure, Composite Types)
abbrev pub renamed_field : (ℕ → ℕ) → FieldType → FieldType
renamed_field name field = record field { element_type = renamed_storage name field.element_type }

-- an array, struct or function type with each type index replaced by `name` (Structure, Composite
-- Types)
abbrev pub renamed_inner : (ℕ → ℕ) → CompositeInnerType → CompositeInnerType
renamed_inner name (Array array) = Array (record { 0 = renamed_field name array.0 })
renamed_inner name (Func function) =
    Func (record { params = map (renamed_val name) function.params; results = map (renamed_val name) function.results })
renamed_inner name (Struct structure) = Struct (record { fields = map (renamed_field name) structure.fields })

-- the index of a declared supertype, replaced by `name` (Structure, Recursive Types)
abbrev pub renamed_supertype : (ℕ → ℕ) → Option ℕ → Option ℕ
renamed_supertype name None = None
renamed_supertype name (Some index) = Some (name index)

-- a subtype with each type index replaced by `name` (Structure, Recursive Types)
abbrev pub renamed : (ℕ → ℕ) → SubType → SubType
renamed name t = record {
  is_final = t.is_final;
  supertype = renamed_supertype name t.supertype;
  composite_type = record { inner = renamed_inner name t.composite_type.inner; shared = t.composite_type.shared };
}
