-- Readings of definitions of tables and globals: the section Binary Format, Modules, Table Section and
-- Global Section, of the WebAssembly Core Specification 3.0.
use Rattle.std.specs.Prelude.{ℕ, ◌==◌, if◌then◌else◌, List}
use Rattle.smith_decode.specs.Common.{byte_at, expr_at, fault_at, GlobalType, Instr, joined_at, mapped_at, Reading, TableType, UnknownByte}
use Rattle.smith_decode.specs.Common.{◌>>=◌}
use Rattle.smith_binary_read.specs.EntityReadings.{global_type_at, table_type_at}
use Rattle.smith_decode.specs.declared.definitions.GlobalDefinition.{GlobalDefinition}
use Rattle.smith_decode.specs.declared.definitions.TableDefinition.{TableDefinition}
use Rattle.smith_decode.specs.Definitions.{null_of, IsTable, IsGlobal}

-- a global: its type, then its initialiser (Global Section)
abbrev pub IsGlobalDefinition : GlobalDefinition → List ℕ → Type 0
IsGlobalDefinition global = IsGlobal (global.ty, global.initial)

-- a global of this type and this initialiser
abbrev pub global_of : GlobalType → List Instr → GlobalDefinition
global_of ty initial = record { ty = ty; initial = initial }

-- reads a global (Global Section)
unfoldable pub global_at : List ℕ → Reading GlobalDefinition
global_at bytes = joined_at global_of global_type_at expr_at bytes

-- a table: with its initialiser, or its type alone if the initialiser is `ref.null` (Table Section)
abbrev pub IsTableDefinition : TableDefinition → List ℕ → Type 0
IsTableDefinition table = IsTable (table.ty, table.initial)

-- a table of this type and this initialiser
abbrev pub table_of : TableType → List Instr → TableDefinition
table_of ty initial = record { ty = ty; initial = initial }

-- reads a table type, then an initialiser (Table Section)
abbrev pub initialised_at : List ℕ → Reading TableDefinition
initialised_at = joined_at table_of table_type_at expr_at

-- reads a table type alone: the initialiser is `ref.null` (Table Section)
abbrev pub null_at : List ℕ → Reading TableDefinition
null_at = mapped_at (λ ty. table_of ty (null_of ty.element_type)) table_type_at

-- reads a table (Table Section)
unfoldable pub table_at : List ℕ → Reading TableDefinition
table_at bytes = byte_at bytes >>= (λ byte.
    if byte.0 == 0x40 then (byte_at byte.1 >>= (λ zero. if zero.0 == 0 then initialised_at zero.1 else fault_at UnknownByte bytes))
    else null_at bytes)
