-- Types of entities: the section Binary Format, Types, of the WebAssembly Core Specification 3.0.
-- Shared entities follow the threads and shared-everything-threads proposals, page sizes the custom
-- page sizes proposal.
use Rattle.std.specs.Prelude.{ℕ, ◌+◌, Bool, true, false, Option, Some, None, List, []}
use Rattle.smith_binary_sections.specs.Common.{any, GlobalType, Is, IsByte, IsUnsignedIn, Joined, Spelling, TableType}
use Rattle.smith_types.specs.Syntax.entity_type.MemoryType.{MemoryType}
use Rattle.smith_types.specs.Syntax.entity_type.EntityType.{EntityType}
use Rattle.smith_types.specs.Syntax.entity_type.EntityType.TheVariants as entity
use Rattle.smith_binary_sections.specs.Types.{IsRefTypeIn, IsValTypeIn}
use Rattle.smith_binary_sections.specs.Instructions.{IsIndexIn}

-- the flag `n` if it is set, or else 0 (Limits)
abbrev pub flag : Bool → ℕ → ℕ
flag true n = n
flag false n = 0

-- whether an option has a value (Limits)
abbrev pub is_there : Option ℕ → Bool
is_there (Some n) = true
is_there None = false

-- a maximum, an integer of 64 bits, or no byte if there is none (Limits)
abbrev pub IsMaximumIn : Spelling → Option ℕ → List ℕ → Type 0
IsMaximumIn spelling (Some n) piece = IsUnsignedIn spelling 64 n piece
IsMaximumIn spelling None piece = Is [] piece

abbrev pub IsMaximum : Option ℕ → List ℕ → Type 0
IsMaximum = IsMaximumIn any

-- the logarithm of a page size, an integer of 32 bits, or no byte if none is stated (custom page
-- sizes proposal)
abbrev pub IsPageSizeIn : Spelling → Option ℕ → List ℕ → Type 0
IsPageSizeIn spelling (Some log2) piece = IsUnsignedIn spelling 32 log2 piece
IsPageSizeIn spelling None piece = Is [] piece

abbrev pub IsPageSize : Option ℕ → List ℕ → Type 0
IsPageSize = IsPageSizeIn any

-- the flags of a global: it is mutable, or it is shared, which is a flag of the proposal (Global
-- Types)
abbrev pub global_byte : Bool → Bool → ℕ
global_byte mutable shared = flag mutable 0x01 + flag shared 0x02

-- a global type: its value type, then its flags (Global Types)
abbrev pub IsGlobalTypeIn : Spelling → GlobalType → List ℕ → Type 0
IsGlobalTypeIn spelling global = Joined (IsValTypeIn spelling global.val_type) (IsByte (global_byte global.mutable global.shared))

-- a global type in any spelling (Global Types)
abbrev pub IsGlobalType : GlobalType → List ℕ → Type 0
IsGlobalType = IsGlobalTypeIn any

-- the flags of limits: there is a maximum, the entity is shared, addresses have 64 bits, a page
-- size is stated (Limits; the second and the last are flags of the proposals)
abbrev pub limits_byte : Option ℕ → Bool → Bool → Option ℕ → ℕ
limits_byte maximum shared wide page = flag (is_there maximum) 0x01 + flag shared 0x02 + flag wide 0x04 + flag (is_there page) 0x08

-- limits after their flags: a minimum, and a maximum if there is one (Limits)
abbrev pub IsRangeIn : Spelling → ℕ → Option ℕ → List ℕ → Type 0
IsRangeIn spelling minimum maximum = Joined (IsUnsignedIn spelling 64 minimum) (IsMaximumIn spelling maximum)

abbrev pub IsRange : ℕ → Option ℕ → List ℕ → Type 0
IsRange = IsRangeIn any

-- a memory type: its flags, its limits (Memory Types), and the logarithm of its page size if it
-- states one (custom page sizes proposal)
abbrev pub IsMemoryTypeIn : Spelling → MemoryType → List ℕ → Type 0
IsMemoryTypeIn spelling memory =
    Joined (IsByte (limits_byte memory.maximum memory.shared memory.memory64 memory.page_size_log2))
    (Joined (IsRangeIn spelling memory.minimum memory.maximum) (IsPageSizeIn spelling memory.page_size_log2))

-- a memory type in any spelling (Memory Types)
abbrev pub IsMemoryType : MemoryType → List ℕ → Type 0
IsMemoryType = IsMemoryTypeIn any

-- a table type: its reference type, then its flags and its limits (Table Types)
abbrev pub IsTableTypeIn : Spelling → TableType → List ℕ → Type 0
IsTableTypeIn spelling table =
    Joined (IsRefTypeIn spelling table.element_type) (Joined (IsByte (limits_byte table.maximum table.shared table.table64 None))
    (IsRangeIn spelling table.minimum table.maximum))

-- a table type in any spelling (Table Types)
abbrev pub IsTableType : TableType → List ℕ → Type 0
IsTableType = IsTableTypeIn any

-- a tag type: a byte for exceptions, then a type index (Tag Types)
abbrev pub IsTagTypeIn : Spelling → ℕ → List ℕ → Type 0
IsTagTypeIn spelling index = Joined (IsByte 0x00) (IsIndexIn spelling index)

-- a tag type in any spelling (Tag Types)
abbrev pub IsTagType : ℕ → List ℕ → Type 0
IsTagType = IsTagTypeIn any

-- an external type (External Types)
abbrev pub IsExternTypeIn : Spelling → EntityType → List ℕ → Type 0
IsExternTypeIn spelling (entity.Func index) piece = Joined (IsByte 0x00) (IsIndexIn spelling index) piece
IsExternTypeIn spelling (entity.Table table) piece = Joined (IsByte 0x01) (IsTableTypeIn spelling table) piece
IsExternTypeIn spelling (entity.Memory memory) piece = Joined (IsByte 0x02) (IsMemoryTypeIn spelling memory) piece
IsExternTypeIn spelling (entity.Global global) piece = Joined (IsByte 0x03) (IsGlobalTypeIn spelling global) piece
IsExternTypeIn spelling (entity.Tag index) piece = Joined (IsByte 0x04) (IsTagTypeIn spelling index) piece

abbrev pub IsExternType : EntityType → List ℕ → Type 0
IsExternType = IsExternTypeIn any
