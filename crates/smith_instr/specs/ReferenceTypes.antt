-- The types of reference and table instructions: the sections Validation, Reference Instructions
-- and Table Instructions, of the WebAssembly Core Specification 3.0. By a rule of this project,
-- shared and unshared references may be compared.
use Rattle.std.specs.Prelude.{◌≡◌, ℕ, ◌<◌, Bool, List, [], ◌∷◌, Some, length, slice_get, if◌then◌else◌}
use Rattle.std.specs.List.{Contains}
use Rattle.smith_instr.specs.Common.{Abstract, HeapType, I32, IsRefBelow, Ref, reference_to, RefType, TableType, ValType}
use Rattle.smith_types.specs.Syntax.value_type.AbstractHeapType.TheVariants as abstract
use Rattle.smith_instr.specs.Contexts.{BodyContext, IsHeapValid, IsRefValid, To, address, nullable_to, reference_to_function}
use Rattle.smith_instr.specs.declared.reference.ReferenceInstr.{ReferenceInstr}
use Rattle.smith_instr.specs.declared.reference.ReferenceInstr.TheVariants as reference
use Rattle.smith_instr.specs.declared.table.TableInstr.{TableInstr}
use Rattle.smith_instr.specs.declared.table.TableInstr.TheVariants as table

-- a reference instruction has the type [operands] → [results] (Validation, Reference Instructions)
abbrev pub HasReferenceType : BodyContext → ReferenceInstr → List ValType → List ValType → Type 0
HasReferenceType context (reference.Null heap_type) operands results = IsHeapValid context heap_type × To operands results []
    (nullable_to heap_type ∷ [])
HasReferenceType context (reference.Func function) operands results =
    (index : ℕ) × (slice_get context.funcs function ≡ Some index) × Contains context.references function
    × To operands results [] (reference_to_function context function index ∷ [])
HasReferenceType context reference.IsNull operands results =
    (heap_type : HeapType) × IsHeapValid context heap_type × To operands results (nullable_to heap_type ∷ []) (I32 ∷ [])
HasReferenceType context reference.AsNonNull operands results =
    (heap_type : HeapType) × IsHeapValid context heap_type × To operands results (nullable_to heap_type ∷ []) (reference_to heap_type ∷ [])
HasReferenceType context reference.Eq operands results =
    (first : Bool) × (second : Bool)
    × To operands results (nullable_to (Abstract first abstract.Eq) ∷ nullable_to (Abstract second abstract.Eq) ∷ []) (I32 ∷ [])
HasReferenceType context (reference.Test to) operands results =
    (from : RefType) × IsRefValid context to × IsRefValid context from × IsRefBelow context.types to from
    × To operands results (Ref from ∷ []) (I32 ∷ [])
HasReferenceType context (reference.Cast to) operands results =
    (from : RefType) × IsRefValid context to × IsRefValid context from × IsRefBelow context.types to from
    × To operands results (Ref from ∷ []) (Ref to ∷ [])

-- the table at `index` has this type (Validation, Contexts)
abbrev pub IsTable : BodyContext → ℕ → TableType → Type 0
IsTable context index ty = slice_get context.tables index ≡ Some ty

-- the type of the number of elements that table.copy copies: the narrower address type of the two
-- tables (Validation, Table Instructions, table.copy)
abbrev pub narrower : Bool → Bool → ValType
narrower one other = if one then address other else I32

-- a table instruction has the type [operands] → [results] (Validation, Table Instructions)
abbrev pub HasTableType : BodyContext → TableInstr → List ValType → List ValType → Type 0
HasTableType context (table.Get index) operands results =
    (ty : TableType) × IsTable context index ty × To operands results (address ty.table64 ∷ []) (Ref ty.element_type ∷ [])
HasTableType context (table.Set index) operands results =
    (ty : TableType) × IsTable context index ty × To operands results (address ty.table64 ∷ Ref ty.element_type ∷ []) []
HasTableType context (table.Size index) operands results =
    (ty : TableType) × IsTable context index ty × To operands results [] (address ty.table64 ∷ [])
HasTableType context (table.Grow index) operands results =
    (ty : TableType) × IsTable context index ty × To operands results (Ref ty.element_type ∷ address ty.table64 ∷ [])
    (address ty.table64 ∷ [])
HasTableType context (table.Fill index) operands results =
    (ty : TableType) × IsTable context index ty × To operands results (address ty.table64 ∷ Ref ty.element_type ∷ address ty.table64 ∷ [])
    []
HasTableType context (table.Copy to from) operands results =
    (into : TableType) × (out : TableType) × IsTable context to into × IsTable context from out × IsRefBelow context.types out.element_type
    into.element_type
    × To operands results (address into.table64 ∷ address out.table64 ∷ narrower into.table64 out.table64 ∷ []) []
HasTableType context (table.Init index segment) operands results =
    (ty : TableType) × (held : RefType) × IsTable context index ty × (slice_get context.elems segment ≡ Some held)
    × IsRefBelow context.types held ty.element_type × To operands results (address ty.table64 ∷ I32 ∷ I32 ∷ []) []
HasTableType context (table.ElemDrop segment) operands results = (segment < length context.elems) × To operands results [] []
