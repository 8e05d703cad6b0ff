-- Entities used by the examples.
use Rattle.std.specs.Prelude.{ℕ, ◌^◌, true, false, List, [], ◌∷◌, Option, None}
use Rattle.smith_types.specs.Common.{EntityType, GlobalType, I32, ImportItem, MemoryType, RefType, TableType, ValType}
use Rattle.smith_syntax.specs.declared.entity_type.EntityType.TheVariants as entity
use Rattle.smith_syntax.specs.declared.imports.Import.{Import}
use Rattle.smith_types.specs.Flags.{funcref}
use Rattle.smith_types.specs.Imports.{EntitySpaces, import_of}

-- an unshared memory with 32-bit addresses and pages of 64 KiB
abbrev pub memory : ℕ → Option ℕ → MemoryType
memory minimum maximum = record { minimum = minimum; maximum = maximum; memory64 = false; shared = false; page_size_log2 = None }

-- a memory that covers all 64-bit addresses
abbrev pub all_addresses : MemoryType
all_addresses = record (memory (2 ^ 48) None) { memory64 = true }

-- an unshared table with 32-bit addresses
abbrev pub table : RefType → ℕ → Option ℕ → TableType
table element minimum maximum = record { element_type = element; minimum = minimum; maximum = maximum; table64 = false; shared = false }

-- an immutable, unshared global
abbrev pub constant_global : ValType → GlobalType
constant_global value = record { val_type = value; mutable = false; shared = false }

-- a mutable, unshared global
abbrev pub variable_global : ValType → GlobalType
variable_global value = record { val_type = value; mutable = true; shared = false }

-- a function and a tag of the first type, a table, a memory and a global
abbrev pub one_of_each : EntitySpaces
one_of_each = record {
  tags = 0 ∷ [];
  funcs = 0 ∷ [];
  tables = table funcref 10 None ∷ [];
  memories = memory 1 None ∷ [];
  globals = constant_global I32 ∷ [];
}

-- an import of a group, with this name
abbrev pub item : List ℕ → EntityType → ImportItem
item name entity_type = record { name = name; entity_type = entity_type }

-- imports of two functions and of one entity of each other kind
abbrev pub mixed_imports : List Import
mixed_imports =
    import_of [] [] (entity.Func 3) ∷ import_of [] [] (entity.Tag 2) ∷ import_of [] [] (entity.Memory (memory 1 None)) ∷ import_of [] []
    (entity.Func 1)
    ∷ import_of [] [] (entity.Table (table funcref 10 None)) ∷ import_of [] [] (entity.Global (constant_global I32)) ∷ []
