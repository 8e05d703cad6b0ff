-- Valid entities: the section Validation, Types, of the WebAssembly Core Specification 3.0. The
-- conditions on explicit page sizes, sharedness, results of tags and features are rules of this
-- project.
use Rattle.std.specs.Prelude.{◌≡◌, ℕ, ◌-◌, ◌/◌, ◌^◌, ◌<◌, ◌≤◌, ◌⊎◌, min, Bool, IsTrue, IsSome, IfSome, List, [], Option, Some, None, length}
use Rattle.std.specs.Prelude.{slice_get, All, if◌then◌else◌}
use Rattle.smith_types.specs.Common.{Features, Func, FuncType, GlobalType, MemoryType, Ref, SubType, TableType}
use Rattle.smith_types.specs.Flags.{IsElementTypeEnabled}
use Rattle.smith_types.specs.Imports.{EntitySpaces}
use Rattle.smith_types.specs.ValidTypes.{IsRefTypeValid, IsValTypeValid, IsShareable}

-- the minimum is at most the maximum, and neither exceeds `most` (Validation, Limits)
pub record AreLimitsValid (most minimum : ℕ) (maximum : Option ℕ) : Type 0 where
  pub minimum_fits : minimum ≤ most
  pub maximum_fits : IfSome maximum (λ n. (minimum ≤ n) × (n ≤ most))

-- the binary logarithm of the page size in bytes: that of 64 KiB (Execution, Memory Instances),
-- unless the memory type states one (own rule)
abbrev pub page_log2 : Option ℕ → ℕ
page_log2 (Some stated) = stated
page_log2 None = 16

-- the number of bytes that a memory can address (Structure, Address Types)
abbrev pub addresses : Bool → ℕ
addresses memory64 = if memory64 then 2 ^ 64 else 2 ^ 32

-- the maximum number of pages: those that fill the address space (Validation, Memory Types), but
-- fewer than the number of addresses (own rule)
abbrev pub most_pages : Bool → Option ℕ → ℕ
most_pages memory64 stated = min (addresses memory64 / 2 ^ page_log2 stated) (addresses memory64 - 1)

-- a memory type is valid (Validation, Memory Types). A shared memory has a maximum, a stated page
-- size is 1 byte or 64 KiB, and each of these and 64-bit addresses require their feature (own
-- rules).
pub record IsMemoryValid (features : Features) (memory : MemoryType) : Type 0 where
  pub limits : AreLimitsValid (most_pages memory.memory64 memory.page_size_log2) memory.minimum memory.maximum
  pub page_size : IfSome memory.page_size_log2 (λ log2. ((log2 ≡ 0) ⊎ (log2 ≡ 16)) × IsTrue features.custom_page_sizes)
  pub memory64 : IsTrue memory.memory64 → IsTrue features.memory64
  pub shared : IsTrue memory.shared → IsTrue features.threads × IsSome memory.maximum

-- the maximum number of elements of a table (Validation, Table Types)
abbrev pub most_elements : Bool → ℕ
most_elements table64 = if table64 then 2 ^ 64 - 1 else 2 ^ 32 - 1

-- a table type is valid over `types` (Validation, Table Types). The element type, 64-bit addresses
-- and sharedness require their features, and a shared table holds shared references (own rules).
pub record IsTableValid (features : Features) (types : List SubType) (table : TableType) : Type 0 where
  pub limits : AreLimitsValid (most_elements table.table64) table.minimum table.maximum
  pub element : IsRefTypeValid features (length types) table.element_type
  pub element_enabled : IsElementTypeEnabled features table.element_type
  pub table64 : IsTrue table.table64 → IsTrue features.memory64
  pub shared : IsTrue table.shared → IsTrue features.shared_everything_threads × IsShareable types (Ref table.element_type)

-- a global type is valid over `types` (Validation, Global Types); a shared global requires its
-- feature and holds a value that may be shared (own rule)
pub record IsGlobalValid (features : Features) (types : List SubType) (global : GlobalType) : Type 0 where
  pub value : IsValTypeValid features (length types) global.val_type
  pub shared : IsTrue global.shared → IsTrue features.shared_everything_threads × IsShareable types global.val_type

-- the type at this index is this function type (Structure, Composite Types)
abbrev pub IsFuncAt : List SubType → ℕ → FuncType → Type 0
IsFuncAt types index function = (t : SubType) × (slice_get types index ≡ Some t) × (t.composite_type.inner ≡ Func function)

-- the index is the index of a function type, as a function requires (Validation, Functions)
abbrev pub IsFuncTypeIndex : List SubType → ℕ → Type 0
IsFuncTypeIndex types index = (function : FuncType) × IsFuncAt types index function

-- the index is the index of a function type, as a tag requires (Validation, Tag Types), and the
-- type has no results (own rule)
abbrev pub IsTagValid : List SubType → ℕ → Type 0
IsTagValid types index = (function : FuncType) × IsFuncAt types index function × (function.results ≡ [])

-- each entity of the index spaces, imported or defined, is valid (Validation, External Types)
pub record AreEntitiesValid (features : Features) (types : List SubType) (spaces : EntitySpaces) : Type 0 where
  pub tags : All (IsTagValid types) spaces.tags
  pub funcs : All (IsFuncTypeIndex types) spaces.funcs
  pub tables : All (IsTableValid features types) spaces.tables
  pub memories : All (IsMemoryValid features) spaces.memories
  pub globals : All (IsGlobalValid features types) spaces.globals

-- a tag, a second table and a second memory each require a feature (own rule)
pub record AreCountsEnabled (features : Features) (spaces : EntitySpaces) : Type 0 where
  pub tags : 0 < length spaces.tags → IsTrue features.exceptions
  pub several_tables : 1 < length spaces.tables → IsTrue features.reference_types
  pub several_memories : 1 < length spaces.memories → IsTrue features.multi_memory
