-- A rolled group as a list of numbers, which determines the group and is its key in a map. The
-- numbers are rules of this project.
use Rattle.std.specs.Prelude.{ℕ, Bool, true, false, List, [], ◌∷◌, ◌++◌, length, Option, Some, None}
use Rattle.std.specs.List.{flat_map}
use Rattle.smith_types.specs.Syntax.value_type.AbstractHeapType.{AbstractHeapType}
use Rattle.smith_types.specs.Syntax.value_type.AbstractHeapType.TheVariants as heap
use Rattle.smith_types.specs.Syntax.value_type.HeapType.{HeapType}
use Rattle.smith_types.specs.Syntax.value_type.HeapType.TheVariants.{Abstract, Concrete, Exact}
use Rattle.smith_types.specs.Syntax.value_type.ValType.{ValType}
use Rattle.smith_types.specs.Syntax.value_type.ValType.TheVariants.{I32, I64, F32, F64, V128, Ref}
use Rattle.smith_types.specs.Syntax.composite_type.StorageType.{StorageType}
use Rattle.smith_types.specs.Syntax.composite_type.StorageType.TheVariants.{I8, I16, Val}
use Rattle.smith_types.specs.Syntax.composite_type.FieldType.{FieldType}
use Rattle.smith_types.specs.Syntax.composite_type.CompositeInnerType.{CompositeInnerType}
use Rattle.smith_types.specs.Syntax.composite_type.CompositeInnerType.TheVariants.{Array, Func, Struct}
use Rattle.smith_types.specs.Syntax.composite_type.SubType.{SubType}

abbrev pub flag_code : Bool → ℕ
flag_code false = 0
flag_code true = 1

abbrev pub abstract_code : AbstractHeapType → ℕ
abstract_code heap.Func = 0
abstract_code heap.Extern = 1
abstract_code heap.Any = 2
abstract_code heap.None = 3
abstract_code heap.NoExtern = 4
abstract_code heap.NoFunc = 5
abstract_code heap.Eq = 6
abstract_code heap.Struct = 7
abstract_code heap.Array = 8
abstract_code heap.I31 = 9
abstract_code heap.Exn = 10
abstract_code heap.NoExn = 11

abbrev pub heap_codes : HeapType → List ℕ
heap_codes (Abstract shared ty) = 0 ∷ flag_code shared ∷ abstract_code ty ∷ []
heap_codes (Concrete index) = 1 ∷ index ∷ []
heap_codes (Exact index) = 2 ∷ index ∷ []

abbrev pub val_codes : ValType → List ℕ
val_codes I32 = 0 ∷ []
val_codes I64 = 1 ∷ []
val_codes F32 = 2 ∷ []
val_codes F64 = 3 ∷ []
val_codes V128 = 4 ∷ []
val_codes (Ref reference) = 5 ∷ flag_code reference.nullable ∷ heap_codes reference.heap_type

abbrev pub storage_codes : StorageType → List ℕ
storage_codes I8 = 6 ∷ []
storage_codes I16 = 7 ∷ []
storage_codes (Val value) = val_codes value

abbrev pub field_codes : FieldType → List ℕ
field_codes field = flag_code field.mutable ∷ storage_codes field.element_type

-- a list, after its length
abbrev pub vals_codes : List ValType → List ℕ
vals_codes values = length values ∷ flat_map val_codes values

abbrev pub fields_codes : List FieldType → List ℕ
fields_codes fields = length fields ∷ flat_map field_codes fields

abbrev pub inner_codes : CompositeInnerType → List ℕ
inner_codes (Array array) = 0 ∷ field_codes array.0
inner_codes (Func function) = 1 ∷ (vals_codes function.params ++ vals_codes function.results)
inner_codes (Struct structure) = 2 ∷ fields_codes structure.fields

abbrev pub supertype_codes : Option ℕ → List ℕ
supertype_codes None = 0 ∷ []
supertype_codes (Some index) = 1 ∷ index ∷ []

abbrev pub type_codes : SubType → List ℕ
type_codes t =
    flag_code t.is_final ∷ (supertype_codes t.supertype ++ flag_code t.composite_type.shared ∷ inner_codes t.composite_type.inner)

abbrev pub group_codes : List SubType → List ℕ
group_codes group = flat_map type_codes group
