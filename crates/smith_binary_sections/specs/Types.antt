-- Types: the section Binary Format, Types, of the WebAssembly Core Specification 3.0. Shared types
-- follow the shared-everything-threads proposal, exact types the custom descriptors proposal.
use Rattle.std.specs.Prelude.{◌≡◌, ℕ, Bool, true, false, List, [], ◌∷◌, Option, None, Some, pos, option_to_list, take, drop}
use Rattle.std.specs.declared.ops.Range.{Range}
use Rattle.smith_binary_sections.specs.Common.{any, Is, IsByte, IsList, IsListIn, IsUnsignedIn, Joined, RefType, Spelling, SubType, ValType}
use Rattle.smith_binary.specs.Spelling.{IsSignedIn}
use Rattle.smith_binary.specs.Spelling.Spelling.{written}
use Rattle.smith_binary.specs.Numbers.{IsUnsigned}
use Rattle.smith_types.specs.Syntax.value_type.AbstractHeapType.{AbstractHeapType}
use Rattle.smith_types.specs.Syntax.value_type.AbstractHeapType.TheVariants as abstract
use Rattle.smith_types.specs.Syntax.value_type.HeapType.{HeapType}
use Rattle.smith_types.specs.Syntax.value_type.HeapType.TheVariants.{Abstract, Concrete, Exact}
use Rattle.smith_types.specs.Syntax.value_type.ValType.TheVariants.{I32, I64, F32, F64, V128, Ref}
use Rattle.smith_types.specs.Syntax.composite_type.StorageType.{StorageType}
use Rattle.smith_types.specs.Syntax.composite_type.StorageType.TheVariants as storage
use Rattle.smith_types.specs.Syntax.composite_type.FieldType.{FieldType}
use Rattle.smith_types.specs.Syntax.composite_type.FuncType.{FuncType}
use Rattle.smith_types.specs.Syntax.composite_type.CompositeInnerType.{CompositeInnerType}
use Rattle.smith_types.specs.Syntax.composite_type.CompositeInnerType.TheVariants as inner
use Rattle.smith_types.specs.Syntax.composite_type.CompositeType.{CompositeType}

-- the byte of an abstract heap type (Heap Types)
abbrev pub abstract_byte : AbstractHeapType → ℕ
abstract_byte abstract.Exn = 0x69
abstract_byte abstract.Array = 0x6A
abstract_byte abstract.Struct = 0x6B
abstract_byte abstract.I31 = 0x6C
abstract_byte abstract.Eq = 0x6D
abstract_byte abstract.Any = 0x6E
abstract_byte abstract.Extern = 0x6F
abstract_byte abstract.Func = 0x70
abstract_byte abstract.None = 0x71
abstract_byte abstract.NoExtern = 0x72
abstract_byte abstract.NoFunc = 0x73
abstract_byte abstract.NoExn = 0x74

-- a heap type: a byte, or a type index as a signed integer that is not negative (Heap Types); a
-- shared or exact type has a byte of its proposal first
abbrev pub IsHeapTypeIn : Spelling → HeapType → List ℕ → Type 0
IsHeapTypeIn spelling (Abstract false ty) piece = IsByte (abstract_byte ty) piece
IsHeapTypeIn spelling (Abstract true ty) piece = Joined (IsByte 0x65) (IsByte (abstract_byte ty)) piece
IsHeapTypeIn spelling (Concrete index) piece = IsSignedIn spelling 33 (pos index) piece
IsHeapTypeIn spelling (Exact index) piece = Joined (IsByte 0x62) (IsUnsignedIn spelling 32 index) piece

-- a heap type in any spelling (Heap Types)
abbrev pub IsHeapType : HeapType → List ℕ → Type 0
IsHeapType = IsHeapTypeIn any

-- an unshared abstract heap type alone (Reference Types)
abbrev pub IsAbstractAlone : HeapType → List ℕ → Type 0
IsAbstractAlone (Abstract false ty) piece = IsByte (abstract_byte ty) piece
IsAbstractAlone _ piece = ⊥

-- the first byte of a reference type, by its nullability (Reference Types)
abbrev pub null_byte : Bool → ℕ
null_byte true = 0x63
null_byte false = 0x64

-- a reference type: a byte for its nullability, then its heap type; or, if it is nullable, an
-- unshared abstract heap type alone (Reference Types)
pub data IsRefType (reference : RefType) (piece : List ℕ) : Type 0 where
  full : Joined (IsByte (null_byte reference.nullable)) (IsHeapType reference.heap_type) piece → IsRefType reference piece
  short : reference.nullable ≡ true → IsAbstractAlone reference.heap_type piece → IsRefType reference piece

-- the abstract heap type that is written for a reference type, if it is nullable and its heap type
-- is abstract and unshared (own rule)
abbrev pub short_ref : Bool → HeapType → Option AbstractHeapType
short_ref true (Abstract false ty) = Some ty
short_ref nullable heap = None

-- a reference type as the abstract heap type alone if one is given, else in its full form
-- (Reference Types)
abbrev pub IsRefTypeAs : Spelling → RefType → Option AbstractHeapType → List ℕ → Type 0
IsRefTypeAs spelling reference (Some ty) piece = IsByte (abstract_byte ty) piece
IsRefTypeAs spelling reference None piece = Joined (IsByte (null_byte reference.nullable)) (IsHeapTypeIn spelling reference.heap_type) piece

-- a reference type (Reference Types); the written spelling is the abstract heap type alone where
-- possible (own rule)
abbrev pub IsRefTypeIn : Spelling → RefType → List ℕ → Type 0
IsRefTypeIn any reference = IsRefType reference
IsRefTypeIn (written least) reference = IsRefTypeAs (written least) reference (short_ref reference.nullable reference.heap_type)

-- a value type (Number Types, Vector Types, Value Types)
abbrev pub IsValTypeIn : Spelling → ValType → List ℕ → Type 0
IsValTypeIn spelling I32 piece = IsByte 0x7F piece
IsValTypeIn spelling I64 piece = IsByte 0x7E piece
IsValTypeIn spelling F32 piece = IsByte 0x7D piece
IsValTypeIn spelling F64 piece = IsByte 0x7C piece
IsValTypeIn spelling V128 piece = IsByte 0x7B piece
IsValTypeIn spelling (Ref reference) piece = IsRefTypeIn spelling reference piece

abbrev pub IsValType : ValType → List ℕ → Type 0
IsValType = IsValTypeIn any

-- a storage type (Composite Types)
abbrev pub IsStorageTypeIn : Spelling → StorageType → List ℕ → Type 0
IsStorageTypeIn spelling storage.I8 piece = IsByte 0x78 piece
IsStorageTypeIn spelling storage.I16 piece = IsByte 0x77 piece
IsStorageTypeIn spelling (storage.Val value) piece = IsValTypeIn spelling value piece

abbrev pub IsStorageType : StorageType → List ℕ → Type 0
IsStorageType = IsStorageTypeIn any

-- the byte of a field's mutability (Composite Types)
abbrev pub mutability_byte : Bool → ℕ
mutability_byte false = 0x00
mutability_byte true = 0x01

-- a field type: its storage type, then its mutability (Composite Types)
abbrev pub IsFieldTypeIn : Spelling → FieldType → List ℕ → Type 0
IsFieldTypeIn spelling field = Joined (IsStorageTypeIn spelling field.element_type) (IsByte (mutability_byte field.mutable))

abbrev pub IsFieldType : FieldType → List ℕ → Type 0
IsFieldType = IsFieldTypeIn any

-- the parameters and the results of a function type (Composite Types)
abbrev pub IsFuncTypeIn : Spelling → FuncType → List ℕ → Type 0
IsFuncTypeIn spelling function = Joined (IsListIn spelling (IsValTypeIn spelling) function.params)
    (IsListIn spelling (IsValTypeIn spelling) function.results)

abbrev pub IsFuncType : FuncType → List ℕ → Type 0
IsFuncType = IsFuncTypeIn any

-- an array, a struct or a function type (Composite Types)
abbrev pub IsInnerTypeIn : Spelling → CompositeInnerType → List ℕ → Type 0
IsInnerTypeIn spelling (inner.Array array) piece = Joined (IsByte 0x5E) (IsFieldTypeIn spelling array.0) piece
IsInnerTypeIn spelling (inner.Struct structure) piece = Joined (IsByte 0x5F) (IsListIn spelling (IsFieldTypeIn spelling) structure.fields)
    piece
IsInnerTypeIn spelling (inner.Func function) piece = Joined (IsByte 0x60) (IsFuncTypeIn spelling function) piece

abbrev pub IsInnerType : CompositeInnerType → List ℕ → Type 0
IsInnerType = IsInnerTypeIn any

-- the byte of a shared type (shared-everything-threads proposal), or no byte
abbrev pub shared_bytes : Bool → List ℕ
shared_bytes true = 0x65 ∷ []
shared_bytes false = []

-- a composite type (Composite Types), after a byte if it is shared
abbrev pub IsCompositeTypeIn : Spelling → CompositeType → List ℕ → Type 0
IsCompositeTypeIn spelling composite = Joined (Is (shared_bytes composite.shared)) (IsInnerTypeIn spelling composite.inner)

-- a composite type in any spelling (Composite Types)
abbrev pub IsCompositeType : CompositeType → List ℕ → Type 0
IsCompositeType = IsCompositeTypeIn any

-- the first byte of a subtype: final or not (Recursive Types)
abbrev pub final_byte : Bool → ℕ
final_byte true = 0x4F
final_byte false = 0x50

-- a subtype: a byte for its finality, its supertypes and its composite type; or, if it is final and
-- has no supertype, the composite type alone (Recursive Types)
pub data IsSubType (t : SubType) (piece : List ℕ) : Type 0 where
  full : Joined (IsByte (final_byte t.is_final)) (Joined (IsList (IsUnsigned 32) (option_to_list t.supertype))
      (IsCompositeType t.composite_type)) piece → IsSubType t piece
  short : t.is_final ≡ true → t.supertype ≡ None → IsCompositeType t.composite_type piece → IsSubType t piece

-- a recursive group: a list of subtypes, or one subtype alone (Recursive Types)
pub data IsRecGroup (group : List SubType) (piece : List ℕ) : Type 0 where
  full : Joined (IsByte 0x4E) (IsList IsSubType group) piece → IsRecGroup group piece
  short : (t : SubType) → group ≡ t ∷ [] → IsSubType t piece → IsRecGroup group piece

-- whether a subtype is written as its composite type alone (own rule)
abbrev pub is_alone : Option ℕ → Bool → Bool
is_alone None is_final = is_final
is_alone (Some index) is_final = false

-- a subtype as its composite type alone if the flag is true, else in its full form (Recursive
-- Types)
abbrev pub IsSubTypeAsIn : Spelling → Bool → SubType → List ℕ → Type 0
IsSubTypeAsIn spelling true t = IsCompositeTypeIn spelling t.composite_type
IsSubTypeAsIn spelling false t =
    Joined (IsByte (final_byte t.is_final))
    (Joined (IsListIn spelling (IsUnsignedIn spelling 32) (option_to_list t.supertype)) (IsCompositeTypeIn spelling t.composite_type))

abbrev pub IsSubTypeAs : Bool → SubType → List ℕ → Type 0
IsSubTypeAs = IsSubTypeAsIn any

-- a subtype as it is written: its composite type alone if it is final and has no supertype (own
-- rule)
abbrev pub IsSubTypeWrittenIn : Spelling → SubType → List ℕ → Type 0
IsSubTypeWrittenIn spelling t = IsSubTypeAsIn spelling (is_alone t.supertype t.is_final) t

abbrev pub IsSubTypeWritten : SubType → List ℕ → Type 0
IsSubTypeWritten = IsSubTypeWrittenIn any

-- a recursive group as it is written: its subtype alone if it has exactly one (own rule)
abbrev pub IsRecGroupWrittenIn : Spelling → List SubType → List ℕ → Type 0
IsRecGroupWrittenIn spelling (t ∷ []) = IsSubTypeWrittenIn spelling t
IsRecGroupWrittenIn spelling group = Joined (IsByte 0x4E) (IsListIn spelling (IsSubTypeWrittenIn spelling) group)

-- a recursive group as it is written, with integers in any spelling
abbrev pub IsRecGroupWritten : List SubType → List ℕ → Type 0
IsRecGroupWritten = IsRecGroupWrittenIn any

-- the types in a range of indices (Structure, Recursive Types)
abbrev pub group_at : List SubType → Range ℕ → List SubType
group_at types range = drop range.start (take range.end types)
