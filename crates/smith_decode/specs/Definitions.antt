-- Definitions of tables and globals whose initialiser is any expression: the section Binary Format,
-- Modules, Table Section and Global Section, of the WebAssembly Core Specification 3.0.
use Rattle.std.specs.Prelude.{◌≡◌, ℕ, Option, Some, None, List, [], ◌∷◌}
use Rattle.smith_decode.specs.Common.{GlobalType, Instr, IsNestedExpr, Joined, RefType, TableType}
use Rattle.smith_binary.specs.Pieces.{Is}
use Rattle.smith_types.specs.Syntax.value_type.HeapType.{HeapType}
use Rattle.smith_binary_sections.specs.Entities.{IsGlobalType, IsTableType}
use Rattle.smith_instr.specs.declared.instr.Instr.TheVariants.{Reference}
use Rattle.smith_instr.specs.declared.reference.ReferenceInstr.TheVariants.{Null}

-- the expression `ref.null` of a reference type (Table Section)
abbrev pub null_of : RefType → List Instr
null_of reference = Reference (Null reference.heap_type) ∷ []

-- the heap type of a `ref.null` instruction (Structure, Instructions)
abbrev pub null_type : Instr → Option HeapType
null_type (Reference (Null heap_type)) = Some heap_type
null_type _ = None

-- the type of a table, then its initialiser (Table Section)
abbrev pub IsTypedTable : TableType → List Instr → List ℕ → Type 0
IsTypedTable ty initial = Joined (IsTableType ty) (IsNestedExpr initial)

-- a table: two bytes, its type and its initialiser; or its type alone, if the initialiser is
-- `ref.null` (Table Section)
pub data IsTable (table : TableType × List Instr) (piece : List ℕ) : Type 0 where
  initialised : Joined (Is (0x40 ∷ 0x00 ∷ [])) (IsTypedTable table.0 table.1) piece → IsTable table piece
  null : table.1 ≡ null_of table.0.element_type → IsTableType table.0 piece → IsTable table piece

-- a global: its type, then its initialiser (Global Section)
abbrev pub IsGlobal : GlobalType × List Instr → List ℕ → Type 0
IsGlobal global = Joined (IsGlobalType global.0) (IsNestedExpr global.1)
