-- The bounds of a configuration on drawn entities. Rules of this project.
use Rattle.std.specs.Prelude.{ℕ, ◌*◌, ◌^◌, ◌≤◌, ◌⊎◌, Bool, IsTrue, IsSome, IfSome, if◌then◌else◌}
use Rattle.smith_types.specs.Entities.{page_log2}
use Rattle.smith_types.specs.Syntax.entity_type.MemoryType.{MemoryType}
use Rattle.smith_types.specs.Syntax.entity_type.TableType.{TableType}
use Rattle.smith_config.specs.declared.config.Config.{Config}

-- the configured maximum size of a memory in bytes, by the width of its addresses
abbrev pub memory_bytes : Config → Bool → ℕ
memory_bytes config memory64 = if memory64 then config.max_memory64_bytes else config.max_memory32_bytes

-- a number of pages has at most the configured size in bytes, or is at most 1 with `disallow_traps`
abbrev pub ArePagesWithin : Config → MemoryType → ℕ → Type 0
ArePagesWithin config memory pages =
    (pages * 2 ^ page_log2 memory.page_size_log2 ≤ memory_bytes config memory.memory64)
    ⊎ (IsTrue config.disallow_traps × (pages ≤ 1))

-- the limits of a memory are within the configured size, and a maximum exists if the configuration
-- requires it
pub record IsMemoryWithin (config : Config) (memory : MemoryType) : Type 0 where
  pub minimum : ArePagesWithin config memory memory.minimum
  pub maximum : IfSome memory.maximum (ArePagesWithin config memory)
  pub required : IsTrue config.memory_max_size_required → IsSome memory.maximum

-- a number of elements is at most the configured number, or at most 1 with `disallow_traps`
abbrev pub AreElementsWithin : Config → ℕ → Type 0
AreElementsWithin config elements = (elements ≤ config.max_table_elements) ⊎ (IsTrue config.disallow_traps × (elements ≤ 1))

-- the limits of a table are within the configured number, and a maximum exists if the configuration
-- requires it
pub record IsTableWithin (config : Config) (table : TableType) : Type 0 where
  pub minimum : AreElementsWithin config table.minimum
  pub maximum : IfSome table.maximum (AreElementsWithin config)
  pub required : IsTrue config.table_max_size_required → IsSome table.maximum
