-- Modules: the section Binary Format, Modules, of the WebAssembly Core Specification 3.0. Modules
-- have no custom sections here.
use Rattle.std.specs.Prelude.{◌≡◌, ℕ, Option, Some, None, List, [], ◌∷◌, length}
use Rattle.smith_binary_sections.specs.Common.{any, ConstInstr, ExportKind, GlobalType, Import, Is, Joined, Spelling, SubType, TableType}
use Rattle.smith_binary_sections.specs.Common.{ValType}
use Rattle.smith_binary.specs.Numbers.{IsUnsigned}
use Rattle.smith_binary.specs.Pieces.{IsSectionIn}
use Rattle.smith_types.specs.Syntax.entity_type.MemoryType.{MemoryType}
use Rattle.smith_binary_sections.specs.Types.{IsRecGroup}
use Rattle.smith_binary_sections.specs.Instructions.{IsIndex, IsIndexIn}
use Rattle.smith_binary_sections.specs.Entities.{IsMemoryType, IsTagType}
use Rattle.smith_binary_sections.specs.Imports.{IsImports}
use Rattle.smith_binary_sections.specs.Definitions.{IsTable, IsGlobal}
use Rattle.smith_binary_sections.specs.Exports.{IsExport}
use Rattle.smith_binary_sections.specs.Elements.{Elem, IsElem}
use Rattle.smith_binary_sections.specs.Codes.{IsBody}
use Rattle.smith_binary_sections.specs.Data.{Data, IsData}
use Rattle.smith_binary_sections.specs.Sections.{IsOptionalSection, IsListSection}

-- A module in the abstract syntax (Structure, Modules). Functions are two lists, as in the binary
-- format: `functions` has their type indices, `bodies` their locals and the bytes of their
-- expressions, because raw bytes need not be an expression.
pub record Contents : Type 0 where
  pub types : List (List SubType)
  pub imports : List Import
  pub functions : List ℕ
  pub tables : List (TableType × List ConstInstr)
  pub memories : List MemoryType
  pub tags : List ℕ
  pub globals : List (GlobalType × List ConstInstr)
  pub exports : List (List ℕ × ExportKind × ℕ)
  pub start : Option ℕ
  pub elems : List Elem
  pub bodies : List (List ValType × List ℕ)
  pub datas : List Data

-- the magic number, then the version (Modules)
abbrev pub IsPreamble : List ℕ → Type 0
IsPreamble = Is (0x00 ∷ 0x61 ∷ 0x73 ∷ 0x6D ∷ 0x01 ∷ 0x00 ∷ 0x00 ∷ 0x00 ∷ [])

-- the start section, if there is a start function (Start Section)
abbrev pub IsStartSectionIn : Spelling → Option ℕ → List ℕ → Type 0
IsStartSectionIn spelling (Some index) piece = IsSectionIn spelling 8 (IsIndexIn spelling index) piece
IsStartSectionIn spelling None piece = piece ≡ []

-- the start section, if there is a start function, in any spelling (Start Section)
abbrev pub IsStartSection : Option ℕ → List ℕ → Type 0
IsStartSection = IsStartSectionIn any

-- the data count section, which may be absent (Data Count Section); the standard requires it if a
-- body names a data segment, which `IsValidBinary` states
abbrev pub IsDataCount : List Data → List ℕ → Type 0
IsDataCount datas = IsOptionalSection 12 (Unit {0}) (IsUnsigned 32 (length datas))

-- the preamble, then the sections of a module in order; `Code` is the code section (Modules)
abbrev pub IsModuleAround : Contents → (List ℕ → Type 0) → List ℕ → Type 0
IsModuleAround m Code =
    Joined IsPreamble
    (Joined (IsListSection 1 IsRecGroup m.types)
    (Joined (IsOptionalSection 2 (m.imports ≡ []) (IsImports m.imports))
    (Joined (IsListSection 3 IsIndex m.functions)
    (Joined (IsListSection 4 IsTable m.tables)
    (Joined (IsListSection 5 IsMemoryType m.memories)
    (Joined (IsListSection 13 IsTagType m.tags)
    (Joined (IsListSection 6 IsGlobal m.globals)
    (Joined (IsListSection 7 IsExport m.exports)
    (Joined (IsStartSection m.start)
    (Joined (IsListSection 9 IsElem m.elems)
    (Joined (IsDataCount m.datas) (Joined Code (IsListSection 11 IsData m.datas)))))))))))))

-- a module: its preamble and sections, with a body for each function (Modules)
pub record IsModule (m : Contents) (bytes : List ℕ) : Type 0 where
  pub each : length m.functions ≡ length m.bodies
  pub form : IsModuleAround m (IsListSection 10 IsBody m.bodies) bytes
