-- Readings of types.
use Rattle.std.specs.Prelude.{ℕ, Bool, true, false, ◌==◌, ◌||◌, nat_lt, nat_le, if◌then◌else◌, List, [], ◌∷◌, Option, Some, None}
use Rattle.smith_types.specs.Syntax.value_type.AbstractHeapType.{AbstractHeapType}
use Rattle.smith_types.specs.Syntax.value_type.AbstractHeapType.TheVariants as abstract
use Rattle.smith_types.specs.Syntax.value_type.HeapType.{HeapType}
use Rattle.smith_types.specs.Syntax.value_type.HeapType.TheVariants.{Abstract, Concrete, Exact}
use Rattle.smith_types.specs.Syntax.value_type.RefType.{RefType}
use Rattle.smith_types.specs.Syntax.value_type.ValType.{ValType}
use Rattle.smith_types.specs.Syntax.value_type.ValType.TheVariants.{I32, I64, F32, F64, V128, Ref}
use Rattle.smith_types.specs.Syntax.composite_type.StorageType.{StorageType}
use Rattle.smith_types.specs.Syntax.composite_type.StorageType.TheVariants as storage
use Rattle.smith_types.specs.Syntax.composite_type.FieldType.{FieldType}
use Rattle.smith_types.specs.Syntax.composite_type.FuncType.{FuncType}
use Rattle.smith_types.specs.Syntax.composite_type.CompositeInnerType.{CompositeInnerType}
use Rattle.smith_types.specs.Syntax.composite_type.CompositeInnerType.TheVariants as inner
use Rattle.smith_types.specs.Syntax.composite_type.CompositeType.{CompositeType}
use Rattle.smith_binary_read.specs.declared.error.Reason.TheVariants.{UnknownByte}
use Rattle.smith_binary_read.specs.declared.types.DeclaredType.{DeclaredType}
use Rattle.smith_binary_read.specs.Readings.{Reading, ◌>>=◌, fault_at, byte_at, joined_at, mapped_at}
use Rattle.smith_binary_read.specs.Numbers.{unsigned_at}
use Rattle.smith_binary_read.specs.Contents.{list_at}
use Rattle.smith_binary_read.specs.Choices.{item_of, or_at, coded_at, type_index_at}

-- abstract heap types, by their byte
abbrev pub abstract_rows : List (ℕ × AbstractHeapType)
abstract_rows =
    (0x69, abstract.Exn) ∷ (0x6A, abstract.Array) ∷ (0x6B, abstract.Struct) ∷ (0x6C, abstract.I31) ∷ (0x6D, abstract.Eq)
    ∷ (0x6E, abstract.Any)
    ∷ (0x6F, abstract.Extern) ∷ (0x70, abstract.Func) ∷ (0x71, abstract.None) ∷ (0x72, abstract.NoExtern) ∷ (0x73, abstract.NoFunc)
    ∷ (0x74, abstract.NoExn) ∷ []

-- reads an abstract heap type
unfoldable pub abstract_at : List ℕ → Reading AbstractHeapType
abstract_at bytes = coded_at abstract_rows bytes

-- reads a heap type
unfoldable pub heap_type_at : List ℕ → Reading HeapType
heap_type_at bytes = byte_at bytes >>= (λ byte.
    if nat_lt byte.0 64 || nat_le 128 byte.0 then mapped_at Concrete type_index_at bytes
    else (if byte.0 == 0x65 then mapped_at (λ ty. Abstract true ty) abstract_at byte.1
    else (if byte.0 == 0x62 then mapped_at Exact (unsigned_at 32) byte.1
    else mapped_at (λ ty. Abstract false ty) abstract_at bytes)))

-- reads a reference type
unfoldable pub ref_type_at : List ℕ → Reading RefType
ref_type_at bytes = byte_at bytes >>= (λ byte.
    if byte.0 == 0x63 then mapped_at (λ heap. record { nullable = true; heap_type = heap }) heap_type_at byte.1
    else (if byte.0 == 0x64 then mapped_at (λ heap. record { nullable = false; heap_type = heap }) heap_type_at byte.1
    else mapped_at (λ ty. record { nullable = true; heap_type = Abstract false ty }) abstract_at bytes))

-- number and vector types, by their byte
abbrev pub number_rows : List (ℕ × ValType)
number_rows = (0x7F, I32) ∷ (0x7E, I64) ∷ (0x7D, F32) ∷ (0x7C, F64) ∷ (0x7B, V128) ∷ []

-- reads a value type
unfoldable pub val_type_at : List ℕ → Reading ValType
val_type_at bytes = byte_at bytes >>= (λ byte. or_at (item_of number_rows byte.0) byte.1 (mapped_at Ref ref_type_at bytes))

-- packed types, by their byte
abbrev pub packed_rows : List (ℕ × StorageType)
packed_rows = (0x78, storage.I8) ∷ (0x77, storage.I16) ∷ []

-- reads a storage type
unfoldable pub storage_type_at : List ℕ → Reading StorageType
storage_type_at bytes = byte_at bytes >>= (λ byte. or_at (item_of packed_rows byte.0) byte.1 (mapped_at storage.Val val_type_at bytes))

-- mutability, by its byte
abbrev pub flag_rows : List (ℕ × Bool)
flag_rows = (0, false) ∷ (1, true) ∷ []

-- reads the mutability of a field
unfoldable pub mutability_at : List ℕ → Reading Bool
mutability_at bytes = coded_at flag_rows bytes

-- a field type with this storage type and this mutability
abbrev pub field_type : StorageType → Bool → FieldType
field_type element mutable = record { element_type = element; mutable = mutable }

-- reads a field type
unfoldable pub field_type_at : List ℕ → Reading FieldType
field_type_at bytes = joined_at field_type storage_type_at mutability_at bytes

-- a function type with these parameters and these results
abbrev pub func_type : List ValType → List ValType → FuncType
func_type params results = record { params = params; results = results }

-- reads a function type
unfoldable pub func_type_at : List ℕ → Reading FuncType
func_type_at bytes = joined_at func_type (list_at val_type_at) (list_at val_type_at) bytes

-- reads an array, a struct or a function type
unfoldable pub inner_type_at : List ℕ → Reading CompositeInnerType
inner_type_at bytes = byte_at bytes >>= (λ byte.
    if byte.0 == 0x5E then mapped_at (λ field. inner.Array (record { 0 = field })) field_type_at byte.1
    else (if byte.0 == 0x5F then mapped_at (λ fields. inner.Struct (record { fields = fields })) (list_at field_type_at) byte.1
    else (if byte.0 == 0x60 then mapped_at inner.Func func_type_at byte.1
    else fault_at UnknownByte bytes)))

-- a composite type with this sharedness
abbrev pub composite_type : Bool → CompositeInnerType → CompositeType
composite_type shared inner = record { inner = inner; shared = shared }

-- reads a composite type
unfoldable pub composite_type_at : List ℕ → Reading CompositeType
composite_type_at bytes = byte_at bytes >>= (λ byte.
    if byte.0 == 0x65 then mapped_at (composite_type true) inner_type_at byte.1
    else mapped_at (composite_type false) inner_type_at bytes)

-- the first item of a list, if there is one, and the others
abbrev pub split_first : List ℕ → Option ℕ × List ℕ
split_first [] = (None, [])
split_first (first ∷ others) = (Some first, others)

-- reads a list of supertypes as the first and the further ones (Recursive Types)
unfoldable pub supertypes_at : List ℕ → Reading (Option ℕ × List ℕ)
supertypes_at bytes = mapped_at split_first (list_at (unsigned_at 32)) bytes

-- a declared type with this finality, these supertypes and this composite type
abbrev pub declared_type : Bool → (Option ℕ × List ℕ) × CompositeType → DeclaredType
declared_type is_final parts = record {
  sub_type = record { is_final = is_final; supertype = parts.0.0; composite_type = parts.1 };
  further_supertypes = parts.0.1;
}

-- reads the supertypes of a declared type, then its composite type
abbrev pub declared_at : List ℕ → Reading ((Option ℕ × List ℕ) × CompositeType)
declared_at bytes = joined_at (λ supertypes composite. (supertypes, composite)) supertypes_at composite_type_at bytes

-- reads a declared type
unfoldable pub declared_type_at : List ℕ → Reading DeclaredType
declared_type_at bytes = byte_at bytes >>= (λ byte.
    if byte.0 == 0x4F then mapped_at (declared_type true) declared_at byte.1
    else (if byte.0 == 0x50 then mapped_at (declared_type false) declared_at byte.1
    else mapped_at (λ composite. declared_type true ((None, []), composite)) composite_type_at bytes))

-- reads a recursive group
unfoldable pub declared_group_at : List ℕ → Reading (List DeclaredType)
declared_group_at bytes = byte_at bytes >>= (λ byte.
    if byte.0 == 0x4E then list_at declared_type_at byte.1
    else mapped_at (λ t. t ∷ []) declared_type_at bytes)
