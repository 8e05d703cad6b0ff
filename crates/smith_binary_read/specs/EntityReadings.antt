-- Readings of the types of entities, exports and imports.
use Rattle.std.specs.Prelude.{ℕ, Bool, true, false, ◌==◌, if◌then◌else◌, List, [], ◌∷◌, Option, Some, None, Ok}
use Rattle.smith_types.specs.Syntax.value_type.RefType.{RefType}
use Rattle.smith_types.specs.Syntax.value_type.ValType.{ValType}
use Rattle.smith_types.specs.Syntax.entity_type.GlobalType.{GlobalType}
use Rattle.smith_types.specs.Syntax.entity_type.TableType.{TableType}
use Rattle.smith_types.specs.Syntax.entity_type.MemoryType.{MemoryType}
use Rattle.smith_types.specs.Syntax.entity_type.EntityType.{EntityType}
use Rattle.smith_types.specs.Syntax.entity_type.EntityType.TheVariants as entity
use Rattle.smith_types.specs.Syntax.entity_type.ExportKind.{ExportKind}
use Rattle.smith_types.specs.Syntax.entity_type.ExportKind.TheVariants as kind
use Rattle.smith_binary_sections.specs.Exports.{IsExport}
use Rattle.smith_binary_read.specs.declared.entities.Flags.{Flags}
use Rattle.smith_binary_read.specs.declared.exports.Export.{Export}
use Rattle.smith_binary_read.specs.declared.error.Reason.TheVariants.{UnknownByte}
use Rattle.smith_binary_read.specs.Readings.{Reading, ◌>>=◌, fault_at, byte_at, joined_at, mapped_at}
use Rattle.smith_binary_read.specs.Numbers.{unsigned_at}
use Rattle.smith_binary_read.specs.Contents.{name_at}
use Rattle.smith_binary_read.specs.Choices.{coded_at}
use Rattle.smith_binary_read.specs.TypeReadings.{ref_type_at, val_type_at}

-- the kinds of exports, by their byte
abbrev pub kind_rows : List (ℕ × ExportKind)
kind_rows = (0x00, kind.Func) ∷ (0x01, kind.Table) ∷ (0x02, kind.Memory) ∷ (0x03, kind.Global) ∷ (0x04, kind.Tag) ∷ []

-- reads the kind of an export
unfoldable pub kind_at : List ℕ → Reading ExportKind
kind_at bytes = coded_at kind_rows bytes

-- an export: its name, then the kind and the index of its item
abbrev pub IsExportItem : Export → List ℕ → Type 0
IsExportItem item = IsExport (item.name, item.kind, item.index)

-- an export of this name, with the kind and the index of its item
abbrev pub export_of : List ℕ → ExportKind × ℕ → Export
export_of name item = record { name = name; kind = item.0; index = item.1 }

-- reads an export
unfoldable pub export_at : List ℕ → Reading Export
export_at bytes = joined_at export_of name_at (joined_at (λ kind index. (kind, index)) kind_at (unsigned_at 32)) bytes

-- the flags of limits: a maximum, sharedness, 64-bit addresses and a page size
abbrev pub flags : Bool → Bool → Bool → Bool → Flags
flags bounded shared wide paged = record { bounded = bounded; shared = shared; wide = wide; paged = paged }

-- the flags of limits, by their byte
abbrev pub flag_rows : List (ℕ × Flags)
flag_rows =
    (0, flags false false false false) ∷ (1, flags true false false false) ∷ (2, flags false true false false)
    ∷ (3, flags true true false false)
    ∷ (4, flags false false true false) ∷ (5, flags true false true false) ∷ (6, flags false true true false)
    ∷ (7, flags true true true false)
    ∷ (8, flags false false false true) ∷ (9, flags true false false true) ∷ (10, flags false true false true)
    ∷ (11, flags true true false true)
    ∷ (12, flags false false true true) ∷ (13, flags true false true true) ∷ (14, flags false true true true)
    ∷ (15, flags true true true true) ∷ []

-- reads the flags of limits
unfoldable pub flags_at : List ℕ → Reading Flags
flags_at bytes = coded_at flag_rows bytes

-- reads a number if a flag is set
abbrev pub optional_at : Bool → ℕ → List ℕ → Reading (Option ℕ)
optional_at true bits bytes = mapped_at (λ n. Some n) (unsigned_at bits) bytes
optional_at false bits bytes = Ok (None, bytes)

-- a memory type with these flags, this minimum, this maximum and this logarithm of its page size
abbrev pub memory_type : Flags → ℕ → Option ℕ → Option ℕ → MemoryType
memory_type f minimum maximum page =
    record { minimum = minimum; maximum = maximum; memory64 = f.wide; shared = f.shared; page_size_log2 = page }

-- reads a memory type
unfoldable pub memory_type_at : List ℕ → Reading MemoryType
memory_type_at bytes = flags_at bytes >>=
    (λ f. unsigned_at 64 f.1 >>= (λ minimum. optional_at f.0.bounded 64 minimum.1
    >>= (λ maximum. optional_at f.0.paged 32 maximum.1 >>= (λ page.
    Ok (memory_type f.0 minimum.0 maximum.0 page.0, page.1)))))

-- reads a tag type: a byte for exceptions, then a type index
unfoldable pub tag_type_at : List ℕ → Reading ℕ
tag_type_at bytes = byte_at bytes >>= (λ byte. if byte.0 == 0 then unsigned_at 32 byte.1 else fault_at UnknownByte bytes)

-- a table type with this element type, these flags, this minimum and this maximum
abbrev pub table_type : RefType → Flags → ℕ → Option ℕ → TableType
table_type element f minimum maximum =
    record { element_type = element; minimum = minimum; maximum = maximum; table64 = f.wide; shared = f.shared }

-- reads a table type, whose flags state no page size
unfoldable pub table_type_at : List ℕ → Reading TableType
table_type_at bytes = ref_type_at bytes >>= (λ element. flags_at element.1 >>= (λ f.
    if f.0.paged then fault_at UnknownByte bytes
    else (unsigned_at 64 f.1 >>= (λ minimum. optional_at f.0.bounded 64 minimum.1 >>= (λ maximum.
    Ok (table_type element.0 f.0 minimum.0 maximum.0, maximum.1))))))

-- the mutability and sharedness of a global, by its byte
abbrev pub global_rows : List (ℕ × (Bool × Bool))
global_rows = (0, (false, false)) ∷ (1, (true, false)) ∷ (2, (false, true)) ∷ (3, (true, true)) ∷ []

-- reads the mutability and sharedness of a global
unfoldable pub global_flags_at : List ℕ → Reading (Bool × Bool)
global_flags_at bytes = coded_at global_rows bytes

-- a global type with this value type, this mutability and this sharedness
abbrev pub global_type : ValType → Bool × Bool → GlobalType
global_type value f = record { val_type = value; mutable = f.0; shared = f.1 }

-- reads a global type
unfoldable pub global_type_at : List ℕ → Reading GlobalType
global_type_at bytes = joined_at global_type val_type_at global_flags_at bytes

-- reads an external type
unfoldable pub extern_type_at : List ℕ → Reading EntityType
extern_type_at bytes = byte_at bytes >>= (λ byte.
    if byte.0 == 0 then mapped_at entity.Func (unsigned_at 32) byte.1
    else (if byte.0 == 1 then mapped_at entity.Table table_type_at byte.1
    else (if byte.0 == 2 then mapped_at entity.Memory memory_type_at byte.1
    else (if byte.0 == 3 then mapped_at entity.Global global_type_at byte.1
    else (if byte.0 == 4 then mapped_at entity.Tag tag_type_at byte.1
    else fault_at UnknownByte bytes)))))
