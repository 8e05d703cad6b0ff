-- Definitions of tables, globals and tags: the section Binary Format, Modules, Table Section,
-- Global Section and Tag Section, of the WebAssembly Core Specification 3.0.
use Rattle.std.specs.Prelude.{◌≡◌, ℕ, Option, Some, None, List, [], ◌∷◌, unwrap_or}
use Rattle.smith_binary_sections.specs.Common.{any, ConstInstr, GlobalType, Is, Joined, RefType, Spelling, TableType}
use Rattle.smith_types.specs.Syntax.const_instr.ConstInstr.TheVariants.{RefNull}
use Rattle.smith_binary_sections.specs.Instructions.{IsExpressionIn}
use Rattle.smith_binary_sections.specs.Entities.{IsTableType, IsGlobalTypeIn, IsTableTypeIn}

-- the expression `ref.null` of a reference type (Table Section)
abbrev pub null_of : RefType → List ConstInstr
null_of reference = RefNull reference.heap_type ∷ []

-- two bytes, the type of a table and its initialiser (Table Section)
abbrev pub IsInitialisedTableIn : Spelling → TableType → List ConstInstr → List ℕ → Type 0
IsInitialisedTableIn spelling ty initial =
    Joined (Is (0x40 ∷ 0x00 ∷ [])) (Joined (IsTableTypeIn spelling ty) (IsExpressionIn spelling initial))

-- a table with its initialiser, in any spelling (Table Section)
abbrev pub IsInitialisedTable : TableType → List ConstInstr → List ℕ → Type 0
IsInitialisedTable = IsInitialisedTableIn any

-- a table: with its initialiser, or its type alone if the initialiser is `ref.null` (Table Section)
pub data IsTable (table : TableType × List ConstInstr) (piece : List ℕ) : Type 0 where
  initialised : IsInitialisedTable table.0 table.1 piece → IsTable table piece
  null : table.1 ≡ null_of table.0.element_type → IsTableType table.0 piece → IsTable table piece

-- a global: its type, then its initialiser (Global Section)
abbrev pub IsGlobalIn : Spelling → GlobalType × List ConstInstr → List ℕ → Type 0
IsGlobalIn spelling global = Joined (IsGlobalTypeIn spelling global.0) (IsExpressionIn spelling global.1)

-- a global in any spelling (Global Section)
abbrev pub IsGlobal : GlobalType × List ConstInstr → List ℕ → Type 0
IsGlobal = IsGlobalIn any

-- a table type with an initialiser, which is `ref.null` if the definition has none (own rule)
abbrev pub initialised_table : TableType × Option (List ConstInstr) → TableType × List ConstInstr
initialised_table table = (table.0, unwrap_or table.1 (null_of table.0.element_type))

-- a global type with the initialiser of its definition, which also has the global's index (own
-- rule)
abbrev pub initialised_global : GlobalType × (ℕ × List ConstInstr) → GlobalType × List ConstInstr
initialised_global global = (global.0, global.1.1)

-- a table as it is written: its type alone if it has no initialiser (own rule)
abbrev pub IsTableAsIn : Spelling → TableType → Option (List ConstInstr) → List ℕ → Type 0
IsTableAsIn spelling ty None = IsTableTypeIn spelling ty
IsTableAsIn spelling ty (Some initial) = IsInitialisedTableIn spelling ty initial

abbrev pub IsTableAs : TableType → Option (List ConstInstr) → List ℕ → Type 0
IsTableAs = IsTableAsIn any

-- a table with its initialiser, if it has one, as it is written (Table Section)
abbrev pub IsTableWrittenIn : Spelling → TableType × Option (List ConstInstr) → List ℕ → Type 0
IsTableWrittenIn spelling table = IsTableAsIn spelling table.0 table.1

abbrev pub IsTableWritten : TableType × Option (List ConstInstr) → List ℕ → Type 0
IsTableWritten = IsTableWrittenIn any
