-- Exports: the section Binary Format, Modules, Export Section, of the WebAssembly Core
-- Specification 3.0.
use Rattle.std.specs.Prelude.{ℕ, List}
use Rattle.smith_binary_sections.specs.Common.{any, ExportKind, IsByte, IsUnsignedIn, Joined, Spelling}
use Rattle.smith_binary.specs.Pieces.{IsNameIn}
use Rattle.smith_types.specs.Syntax.entity_type.ExportKind.TheVariants.{Func, Table, Memory, Global, Tag}

-- the byte of an export's kind (Export Section)
abbrev pub kind_byte : ExportKind → ℕ
kind_byte Func = 0x00
kind_byte Table = 0x01
kind_byte Memory = 0x02
kind_byte Global = 0x03
kind_byte Tag = 0x04

-- an export: its name, then the kind and the index of its item (Export Section)
abbrev pub IsExportIn : Spelling → List ℕ × ExportKind × ℕ → List ℕ → Type 0
IsExportIn spelling item = Joined (IsNameIn spelling item.0) (Joined (IsByte (kind_byte item.1)) (IsUnsignedIn spelling 32 item.2))

-- an export in any spelling (Export Section)
abbrev pub IsExport : List ℕ × ExportKind × ℕ → List ℕ → Type 0
IsExport = IsExportIn any
