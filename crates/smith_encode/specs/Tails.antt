-- The sections of a module from one of them on: the section Binary Format, Modules, of the WebAssembly
-- Core Specification 3.0.
use Rattle.std.specs.Prelude.{◌≡◌, ℕ, ◌⊎◌, false, Option, Some, None, List, [], ◌∷◌, length, IfSome, Any}
use Rattle.smith_binary.specs.Pieces.{IsList}
use Rattle.smith_binary_read.specs.DeclaredTypes.{IsDeclaredGroup}
use Rattle.smith_binary_sections.specs.Instructions.{IsIndex}
use Rattle.smith_binary_sections.specs.Entities.{IsMemoryType, IsTagType}
use Rattle.smith_binary_sections.specs.Imports.{IsImports}
use Rattle.smith_binary_sections.specs.Exports.{IsExport}
use Rattle.smith_decode.specs.declared.customs.Custom.{Custom}
use Rattle.smith_decode.specs.declared.modules.Module.{Module}
use Rattle.smith_decode.specs.BodyReadings.{name_data}
use Rattle.smith_decode.specs.Customs.{AreCustoms, IsThen}
use Rattle.smith_decode.specs.Data.{IsData}
use Rattle.smith_decode.specs.Definitions.{IsTable, IsGlobal}
use Rattle.smith_decode.specs.Elements.{IsElem}
use Rattle.smith_decode.specs.Modules.{Syntax, IsFunctionBody, IsStated, declared_types}
use Rattle.smith_encode.specs.TooLong.{IsTooLong, IsLongCustom}

abbrev pub FromDatas : Syntax → List ℕ → Type 0
FromDatas m = IsThen 11 (m.datas ≡ []) (IsList IsData m.datas) AreCustoms

abbrev pub FromBodies : Syntax → List ℕ → Type 0
FromBodies m = IsThen 10 (m.bodies ≡ []) (IsList IsFunctionBody m.bodies) (FromDatas m)

abbrev pub FromCount : Syntax → Option ℕ → List ℕ → Type 0
FromCount m count = IsThen 12 (count ≡ None) (IsStated count) (FromBodies m)

abbrev pub FromElements : Syntax → Option ℕ → List ℕ → Type 0
FromElements m count = IsThen 9 (m.elems ≡ []) (IsList IsElem m.elems) (FromCount m count)

abbrev pub FromStart : Syntax → Option ℕ → List ℕ → Type 0
FromStart m count = IsThen 8 (m.start ≡ None) (IsStated m.start) (FromElements m count)

abbrev pub FromExports : Syntax → Option ℕ → List ℕ → Type 0
FromExports m count = IsThen 7 (m.exports ≡ []) (IsList IsExport m.exports) (FromStart m count)

abbrev pub FromGlobals : Syntax → Option ℕ → List ℕ → Type 0
FromGlobals m count = IsThen 6 (m.globals ≡ []) (IsList IsGlobal m.globals) (FromExports m count)

abbrev pub FromTags : Syntax → Option ℕ → List ℕ → Type 0
FromTags m count = IsThen 13 (m.tags ≡ []) (IsList IsTagType m.tags) (FromGlobals m count)

abbrev pub FromMemories : Syntax → Option ℕ → List ℕ → Type 0
FromMemories m count = IsThen 5 (m.memories ≡ []) (IsList IsMemoryType m.memories) (FromTags m count)

abbrev pub FromTables : Syntax → Option ℕ → List ℕ → Type 0
FromTables m count = IsThen 4 (m.tables ≡ []) (IsList IsTable m.tables) (FromMemories m count)

abbrev pub FromFunctions : Syntax → Option ℕ → List ℕ → Type 0
FromFunctions m count = IsThen 3 (m.functions ≡ []) (IsList IsIndex m.functions) (FromTables m count)

abbrev pub FromImports : Syntax → Option ℕ → List ℕ → Type 0
FromImports m count = IsThen 2 (m.imports ≡ []) (IsImports m.imports) (FromFunctions m count)

abbrev pub FromTypes : Syntax → Option ℕ → List ℕ → Type 0
FromTypes m count = IsThen 1 (declared_types m ≡ []) (IsList IsDeclaredGroup (declared_types m)) (FromImports m count)

-- the start section, if there is a start function
abbrev pub start_ids : Option ℕ → List ℕ
start_ids (Some index) = 8 ∷ []
start_ids None = []

-- the sections up to the export section, and those from the element section on
abbrev pub front_ids : List ℕ
front_ids = 1 ∷ 2 ∷ 3 ∷ 4 ∷ []

abbrev pub middle_ids : List ℕ
middle_ids = 5 ∷ 13 ∷ 6 ∷ 7 ∷ []

abbrev pub back_ids : List ℕ
back_ids = 9 ∷ 12 ∷ 10 ∷ 11 ∷ []

-- the number in a data count section, or none if no section is needed
abbrev pub IsCount : Module → Option ℕ → Type 0
IsCount m count = IfSome count (λ stated. stated ≡ length m.datas) × (count ≡ None → name_data m.bodies ≡ false)

-- a module is too long, or one of these custom sections is
abbrev pub IsLongFrom : Module → List Custom → Type 0
IsLongFrom m customs = IsTooLong m ⊎ Any IsLongCustom customs
