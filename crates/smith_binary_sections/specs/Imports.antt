-- Imports: the section Binary Format, Modules, Import Section, of the WebAssembly Core
-- Specification 3.0. Groups follow the compact imports proposal.
use Rattle.std.specs.Prelude.{◌≡◌, ℕ, List, []}
use Rattle.smith_binary_sections.specs.Common.{any, Import, IsByte, IsList, IsListIn, Joined, Spelling}
use Rattle.smith_binary.specs.Pieces.{IsNameIn}
use Rattle.smith_types.specs.Syntax.imports.ImportItem.{ImportItem}
use Rattle.smith_types.specs.Syntax.imports.Imports.{Imports}
use Rattle.smith_types.specs.Syntax.imports.Imports.TheVariants.{Single, Compact1, Compact2}
use Rattle.smith_types.specs.Imports.{flattened}
use Rattle.smith_binary_sections.specs.Entities.{IsExternTypeIn}

-- an import: the module's name, the import's name and its type (Import Section)
abbrev pub IsImportIn : Spelling → Import → List ℕ → Type 0
IsImportIn spelling imported = Joined (IsNameIn spelling imported.«module»)
    (Joined (IsNameIn spelling imported.name) (IsExternTypeIn spelling imported.entity_type))

abbrev pub IsImport : Import → List ℕ → Type 0
IsImport = IsImportIn any

-- an import in a group: its name and its type (compact imports proposal)
abbrev pub IsImportItemIn : Spelling → ImportItem → List ℕ → Type 0
IsImportItemIn spelling item = Joined (IsNameIn spelling item.name) (IsExternTypeIn spelling item.entity_type)

abbrev pub IsImportItem : ImportItem → List ℕ → Type 0
IsImportItem = IsImportItemIn any

-- the start of a group: the module's name, an empty name, and a byte that begins no external type
-- (compact imports proposal)
abbrev pub IsGroupHeadIn : Spelling → List ℕ → ℕ → List ℕ → Type 0
IsGroupHeadIn spelling from byte = Joined (IsNameIn spelling from) (Joined (IsNameIn spelling []) (IsByte byte))

abbrev pub IsGroupHead : List ℕ → ℕ → List ℕ → Type 0
IsGroupHead = IsGroupHeadIn any

-- a group of imports: one import (Import Section); or names of imports, each with its type or all
-- with one type (compact imports proposal)
abbrev pub IsImportGroupIn : Spelling → Imports → List ℕ → Type 0
IsImportGroupIn spelling (Single imported) piece = IsImportIn spelling imported piece
IsImportGroupIn spelling (Compact1 from items) piece = Joined (IsGroupHeadIn spelling from 0x7F)
    (IsListIn spelling (IsImportItemIn spelling) items) piece
IsImportGroupIn spelling (Compact2 from ty names) piece = Joined (IsGroupHeadIn spelling from 0x7E)
    (Joined (IsExternTypeIn spelling ty) (IsListIn spelling (IsNameIn spelling) names)) piece

-- a group of imports in any spelling (Import Section; compact imports proposal)
abbrev pub IsImportGroup : Imports → List ℕ → Type 0
IsImportGroup = IsImportGroupIn any

-- a list of imports, in any groups (Import Section)
pub record IsImports (imports : List Import) (piece : List ℕ) : Type 0 where
  pub groups : List Imports
  pub grouped : imports ≡ flattened groups
  pub form : IsList IsImportGroup groups piece
