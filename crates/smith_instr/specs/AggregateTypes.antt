-- The types of aggregate instructions: the sections Validation, Aggregate Reference, Scalar
-- Reference and External Reference Instructions, of the WebAssembly Core Specification 3.0. By a
-- rule of this project, an instruction on an i31, an array or an external reference takes shared
-- and unshared references.
use Rattle.std.specs.Prelude.{◌≡◌, ℕ, ◌<◌, Bool, true, false, List, [], ◌∷◌, replicate, slice_get, Some, All}
use Rattle.smith_instr.specs.Common.{Abstract, Concrete, I32, IsRefBelow, Ref, reference_to, RefType, ValType}
use Rattle.smith_types.specs.Expressions.{field_values, IsArrayAt, IsDefaultable, IsStructAt, unpacked}
use Rattle.smith_types.specs.Matching.{IsStorageMatch}
use Rattle.smith_types.specs.Syntax.value_type.AbstractHeapType.TheVariants as abstract
use Rattle.smith_types.specs.Syntax.composite_type.StorageType.{StorageType}
use Rattle.smith_types.specs.Syntax.composite_type.StorageType.TheVariants as storage
use Rattle.smith_types.specs.Syntax.composite_type.FieldType.{FieldType}
use Rattle.smith_instr.specs.Contexts.{BodyContext, To, created_reference, nullable_to}
use Rattle.smith_instr.specs.declared.aggregate.Extension.{Extension}
use Rattle.smith_instr.specs.declared.aggregate.Extension.TheVariants as extension
use Rattle.smith_instr.specs.declared.aggregate.AggregateInstr.{AggregateInstr}
use Rattle.smith_instr.specs.declared.aggregate.AggregateInstr.TheVariants as aggregate

-- an access extends a field exactly if the field is packed (Validation, Aggregate Instructions,
-- struct.get and array.get)
abbrev pub IsReadBy : Extension → StorageType → Type 0
IsReadBy extension.Unpacked (storage.Val value) = Unit {0}
IsReadBy extension.Unpacked _ = ⊥
IsReadBy _ (storage.Val value) = ⊥
IsReadBy _ _ = Unit {0}

-- a field of a packed, number or vector type, which a data segment may fill (Validation, Aggregate
-- Instructions, array.new_data)
abbrev pub IsOfBytes : StorageType → Type 0
IsOfBytes (storage.Val (Ref reference)) = ⊥
IsOfBytes _ = Unit {0}

-- the type at `ty` is a struct type, and `field` is its field at `index` (Validation, Aggregate
-- Instructions, struct.get)
pub record IsFieldAt (context : BodyContext) (ty index : ℕ) (field : FieldType) : Type 0 where
  pub fields : List FieldType
  pub structure : IsStructAt context.types ty fields
  pub there : slice_get fields index ≡ Some field

-- the element is a reference type, and the type of the element segment is a subtype of it
-- (Validation, Aggregate Instructions, array.new_elem)
pub record IsElemOf (context : BodyContext) (segment : ℕ) (element : FieldType) : Type 0 where
  pub held : RefType
  pub there : slice_get context.elems segment ≡ Some held
  pub reference : RefType
  pub of_references : element.element_type ≡ storage.Val (Ref reference)
  pub below : IsRefBelow context.types held reference

-- the unpacked type of an element (Validation, Aggregate Instructions)
abbrev pub value_of : FieldType → ValType
value_of element = unpacked element.element_type

-- a conversion between internal and external references (Validation, External Reference
-- Instructions)
abbrev pub Converts : List ValType → List ValType → (from into : Bool → ValType) → Type 0
Converts operands results from into = (nullable : Bool) × To operands results (from nullable ∷ []) (into nullable ∷ [])

-- the type of an external reference (Structure, Heap Types), shared or not (own rule)
abbrev pub external : Bool → Bool → ValType
external shared nullable = Ref (record { nullable = nullable; heap_type = Abstract shared abstract.Extern })

-- the type of an internal reference (Structure, Heap Types), shared or not (own rule)
abbrev pub internal : Bool → Bool → ValType
internal shared nullable = Ref (record { nullable = nullable; heap_type = Abstract shared abstract.Any })

-- an aggregate instruction has the type [operands] → [results] (Validation, Aggregate Instructions)
abbrev pub HasAggregateType : BodyContext → AggregateInstr → List ValType → List ValType → Type 0
HasAggregateType context (aggregate.StructNew ty) operands results =
    (fields : List FieldType) × IsStructAt context.types ty fields × To operands results (field_values fields)
    (created_reference context ty ∷ [])
HasAggregateType context (aggregate.StructNewDefault ty) operands results =
    (fields : List FieldType) × IsStructAt context.types ty fields × All IsDefaultable (field_values fields)
    × To operands results [] (created_reference context ty ∷ [])
HasAggregateType context (aggregate.StructGet ty index extension) operands results =
    (field : FieldType) × IsFieldAt context ty index field × IsReadBy extension field.element_type
    × To operands results (nullable_to (Concrete ty) ∷ []) (value_of field ∷ [])
HasAggregateType context (aggregate.StructSet ty index) operands results =
    (field : FieldType) × IsFieldAt context ty index field × (field.mutable ≡ true)
    × To operands results (nullable_to (Concrete ty) ∷ value_of field ∷ []) []
HasAggregateType context (aggregate.ArrayNew ty) operands results =
    (element : FieldType) × IsArrayAt context.types ty element × To operands results (value_of element ∷ I32 ∷ [])
    (created_reference context ty ∷ [])
HasAggregateType context (aggregate.ArrayNewDefault ty) operands results =
    (element : FieldType) × IsArrayAt context.types ty element × IsDefaultable (value_of element)
    × To operands results (I32 ∷ []) (created_reference context ty ∷ [])
HasAggregateType context (aggregate.ArrayNewFixed ty size) operands results =
    (element : FieldType) × IsArrayAt context.types ty element × To operands results (replicate size (value_of element))
    (created_reference context ty ∷ [])
HasAggregateType context (aggregate.ArrayNewData ty segment) operands results =
    (element : FieldType) × IsArrayAt context.types ty element × IsOfBytes element.element_type × (segment < context.datas)
    × To operands results (I32 ∷ I32 ∷ []) (created_reference context ty ∷ [])
HasAggregateType context (aggregate.ArrayNewElem ty segment) operands results =
    (element : FieldType) × IsArrayAt context.types ty element × IsElemOf context segment element
    × To operands results (I32 ∷ I32 ∷ []) (created_reference context ty ∷ [])
HasAggregateType context (aggregate.ArrayGet ty extension) operands results =
    (element : FieldType) × IsArrayAt context.types ty element × IsReadBy extension element.element_type
    × To operands results (nullable_to (Concrete ty) ∷ I32 ∷ []) (value_of element ∷ [])
HasAggregateType context (aggregate.ArraySet ty) operands results =
    (element : FieldType) × IsArrayAt context.types ty element × (element.mutable ≡ true)
    × To operands results (nullable_to (Concrete ty) ∷ I32 ∷ value_of element ∷ []) []
HasAggregateType context aggregate.ArrayLen operands results =
    (shared : Bool) × To operands results (nullable_to (Abstract shared abstract.Array) ∷ []) (I32 ∷ [])
HasAggregateType context (aggregate.ArrayFill ty) operands results =
    (element : FieldType) × IsArrayAt context.types ty element × (element.mutable ≡ true)
    × To operands results (nullable_to (Concrete ty) ∷ I32 ∷ value_of element ∷ I32 ∷ []) []
HasAggregateType context (aggregate.ArrayCopy to from) operands results =
    (into : FieldType) × (out : FieldType) × IsArrayAt context.types to into × IsArrayAt context.types from out × (into.mutable ≡ true)
    × IsStorageMatch context.types out.element_type into.element_type
    × To operands results (nullable_to (Concrete to) ∷ I32 ∷ nullable_to (Concrete from) ∷ I32 ∷ I32 ∷ []) []
HasAggregateType context (aggregate.ArrayInitData ty segment) operands results =
    (element : FieldType) × IsArrayAt context.types ty element × (element.mutable ≡ true) × IsOfBytes element.element_type
    × (segment < context.datas)
    × To operands results (nullable_to (Concrete ty) ∷ I32 ∷ I32 ∷ I32 ∷ []) []
HasAggregateType context (aggregate.ArrayInitElem ty segment) operands results =
    (element : FieldType) × IsArrayAt context.types ty element × (element.mutable ≡ true) × IsElemOf context segment element
    × To operands results (nullable_to (Concrete ty) ∷ I32 ∷ I32 ∷ I32 ∷ []) []
HasAggregateType context aggregate.RefI31 operands results =
    To operands results (I32 ∷ []) (reference_to (Abstract false abstract.I31) ∷ [])
HasAggregateType context aggregate.RefI31Shared operands results =
    To operands results (I32 ∷ []) (reference_to (Abstract true abstract.I31) ∷ [])
HasAggregateType context aggregate.I31GetS operands results =
    (shared : Bool) × To operands results (nullable_to (Abstract shared abstract.I31) ∷ []) (I32 ∷ [])
HasAggregateType context aggregate.I31GetU operands results =
    (shared : Bool) × To operands results (nullable_to (Abstract shared abstract.I31) ∷ []) (I32 ∷ [])
HasAggregateType context aggregate.AnyConvertExtern operands results =
    (shared : Bool) × Converts operands results (external shared) (internal shared)
HasAggregateType context aggregate.ExternConvertAny operands results =
    (shared : Bool) × Converts operands results (internal shared) (external shared)
