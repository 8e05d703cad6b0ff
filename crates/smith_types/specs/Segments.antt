-- Element and data segments: the section Validation, Modules, of the WebAssembly Core Specification
-- 3.0. Subtyping of references follows the own rules of `Subtyping`.
use Rattle.std.specs.Prelude.{◌≡◌, ℕ, ◌+◌, ◌*◌, ◌^◌, ◌≤◌, Bool, true, false, IsTrue, List, Option, Some, None, length, slice_get, unwrap_or}
use Rattle.std.specs.Prelude.{All}
use Rattle.std.specs.Int.{cast_unsigned, w32, w64}
use Rattle.smith_types.specs.Flags.{IsElementTypeEnabled}
use Rattle.smith_types.specs.Subtyping.{IsRefBelow, IsValBelow}
use Rattle.smith_types.specs.ValidTypes.{IsRefTypeValid}
use Rattle.smith_types.specs.Entities.{page_log2}
use Rattle.smith_types.specs.Expressions.{Context, IsVisible, IsConstExpr, function_reference}
use Rattle.smith_types.specs.Common.{I32, I64, MemoryType, Ref, RefType, TableType, ValType}
use Rattle.smith_syntax.specs.declared.segments.Elements.{Elements}
use Rattle.smith_syntax.specs.declared.segments.Elements.TheVariants.{Functions, Expressions}
use Rattle.smith_syntax.specs.declared.segments.ElementKind.{ElementKind}
use Rattle.smith_syntax.specs.declared.segments.ElementKind.TheVariants as element_kind
use Rattle.smith_syntax.specs.declared.segments.ElementSegment.{ElementSegment}
use Rattle.smith_syntax.specs.declared.segments.DataSegmentKind.{DataSegmentKind}
use Rattle.smith_syntax.specs.declared.segments.DataSegmentKind.TheVariants as data_kind
use Rattle.smith_syntax.specs.declared.segments.DataSegment.{DataSegment}
use Rattle.smith_syntax.specs.declared.segments.Offset.{Offset}
use Rattle.smith_syntax.specs.declared.segments.Offset.TheVariants.{Const32, Const64, Global}

-- the address type of a table or a memory (Structure, Address Types)
abbrev pub address_type : Bool → ValType
address_type true = I64
address_type false = I32

-- an offset has the address type: a constant, or a visible global (Validation, Element Segments and
-- Data Segments)
abbrev pub IsOffsetValid : Context → Bool → Offset → Type 0
IsOffsetValid context wide (Const32 value) = wide ≡ false
IsOffsetValid context wide (Const64 value) = wide ≡ true
IsOffsetValid context wide (Global index) = IsVisible context index (address_type wide)

-- the type of the function's reference is a subtype of the segment's type (Validation, Element
-- Segments)
abbrev pub IsItem : Context → RefType → ℕ → Type 0
IsItem context ty function = (index : ℕ) × (slice_get context.funcs function ≡ Some index) × IsValBelow context.types
    (function_reference context function index) (Ref ty)

-- each item has the segment's type (Validation, Element Segments); items that are expressions
-- require reference types (own rule)
abbrev pub AreItemsValid : Context → RefType → Elements → Type 0
AreItemsValid context ty (Functions functions) = All (IsItem context ty) functions
AreItemsValid context ty (Expressions expressions) = IsTrue context.features.reference_types × All (IsConstExpr context (Ref ty))
    expressions

-- the table of an active segment: table 0 if the segment names none (Binary Format, Element
-- Section)
abbrev pub table_index : Option ℕ → ℕ
table_index table = unwrap_or table 0

-- the table exists, the segment's type is a subtype of its element type, and the offset has its
-- address type (Validation, Element Segments)
pub record IsActiveElementSegment (context : Context) (tables : List TableType) (ty : RefType) (index : ℕ) (offset : Offset) : Type 0 where
  pub table : TableType
  pub stands : slice_get tables index ≡ Some table
  pub below : IsRefBelow context.types ty table.element_type
  pub offset_valid : IsOffsetValid context table.table64 offset

-- the mode of an element segment is valid (Validation, Element Segments); every mode except active
-- without a table index requires bulk memory (own rule)
abbrev pub IsElementKindValid : Context → List TableType → RefType → ElementKind → Type 0
IsElementKindValid context tables ty element_kind.Passive = IsTrue context.features.bulk_memory
IsElementKindValid context tables ty element_kind.Declared = IsTrue context.features.bulk_memory
IsElementKindValid context tables ty (element_kind.Active None offset) = IsActiveElementSegment context tables ty 0 offset
IsElementKindValid context tables ty (element_kind.Active (Some table) offset) = IsTrue context.features.bulk_memory
    × IsActiveElementSegment context tables ty table offset

-- an element segment is valid (Validation, Element Segments)
pub record IsElementSegmentValid (context : Context) (tables : List TableType) (segment : ElementSegment) : Type 0 where
  pub ty : IsRefTypeValid context.features (length context.types) segment.ty
  pub ty_enabled : IsElementTypeEnabled context.features segment.ty
  pub items : AreItemsValid context segment.ty segment.items
  pub kind : IsElementKindValid context tables segment.ty segment.kind

-- an active segment's memory exists, and the offset has its address type (Validation, Data
-- Segments); a passive segment requires bulk memory (own rule)
abbrev pub IsDataKindValid : Context → List MemoryType → DataSegmentKind → Type 0
IsDataKindValid context memories data_kind.Passive = IsTrue context.features.bulk_memory
IsDataKindValid context memories (data_kind.Active index offset) =
    (memory : MemoryType) × (slice_get memories index ≡ Some memory) × IsOffsetValid context memory.memory64 offset

-- a data segment is valid (Validation, Data Segments)
abbrev pub IsDataValid : Context → List MemoryType → DataSegment → Type 0
IsDataValid context memories segment = IsDataKindValid context memories segment.kind

-- the number of items of a segment (Structure, Element Segments)
abbrev pub item_count : Elements → ℕ
item_count (Functions functions) = length functions
item_count (Expressions expressions) = length expressions

-- the offset is a constant, and `count` items from it, read as unsigned, end within `most`
-- (Execution, Instantiation)
abbrev pub IsOffsetInside : Offset → ℕ → ℕ → Type 0
IsOffsetInside (Const32 value) count most = cast_unsigned w32 value + count ≤ most
IsOffsetInside (Const64 value) count most = cast_unsigned w64 value + count ≤ most
IsOffsetInside (Global index) count most = ⊥

-- the copied items end within the minimum number of elements of their table (Execution,
-- Instantiation)
abbrev pub AreElementsInside : List TableType → ElementKind → ℕ → Type 0
AreElementsInside tables element_kind.Passive count = Unit {0}
AreElementsInside tables element_kind.Declared count = Unit {0}
AreElementsInside tables (element_kind.Active index offset) count =
    (table : TableType) × (slice_get tables (table_index index) ≡ Some table) × IsOffsetInside offset count table.minimum

-- the copied bytes end within the minimum number of bytes of their memory (Execution,
-- Instantiation)
abbrev pub AreBytesInside : List MemoryType → DataSegmentKind → ℕ → Type 0
AreBytesInside memories data_kind.Passive count = Unit {0}
AreBytesInside memories (data_kind.Active index offset) count =
    (memory : MemoryType) × (slice_get memories index ≡ Some memory) × IsOffsetInside offset count
    (memory.minimum * 2 ^ page_log2 memory.page_size_log2)

-- an active element segment lies within the minimum size of its table (own rule: so that it does
-- not trap)
abbrev pub IsElementInside : List TableType → ElementSegment → Type 0
IsElementInside tables segment = AreElementsInside tables segment.kind (item_count segment.items)

-- an active data segment lies within the minimum size of its memory (own rule: so that it does not
-- trap)
abbrev pub IsDataInside : List MemoryType → DataSegment → Type 0
IsDataInside memories segment = AreBytesInside memories segment.kind (length segment.init)
