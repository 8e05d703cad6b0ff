-- The sections of a module as they are written, in three parts. Imports are in the module's groups;
-- types, tables and segments are in one of their forms; each local is a run of its own.
use Rattle.std.specs.Prelude.{ℕ, List, length}
use Rattle.std.specs.List.{zip}
use Rattle.smith_binary.specs.Spelling.{IsUnsignedIn, Spelling}
use Rattle.smith_binary.specs.Spelling.Spelling.{any}
use Rattle.smith_binary.specs.Pieces.{Joined, IsListIn}
use Rattle.smith_types.specs.Syntax.code.Code.{Code}
use Rattle.smith_module_rules.specs.Module.{ModuleParts}
use Rattle.smith_binary_sections.specs.Types.{IsRecGroupWrittenIn}
use Rattle.smith_binary_sections.specs.Instructions.{IsIndexIn}
use Rattle.smith_binary_sections.specs.Entities.{IsMemoryTypeIn, IsTagTypeIn}
use Rattle.smith_binary_sections.specs.Imports.{IsImportGroupIn}
use Rattle.smith_binary_sections.specs.Definitions.{IsGlobalIn, IsTableWrittenIn}
use Rattle.smith_binary_sections.specs.Exports.{IsExportIn}
use Rattle.smith_binary_sections.specs.Elements.{IsElemWrittenIn}
use Rattle.smith_binary_sections.specs.Codes.{body_of, IsBodyWrittenIn}
use Rattle.smith_binary_sections.specs.Data.{IsDataWrittenIn}
use Rattle.smith_binary_sections.specs.Sections.{IsSectionIfIn}
use Rattle.smith_binary_sections.specs.Modules.{IsPreamble, IsStartSectionIn}
use Rattle.smith_binary_module.specs.Contents.{defined, contents_of}
use Rattle.smith_binary_module.specs.Layout.{is_filled, writes_types, writes_imports, writes_data_count}

-- the sections up to the table section
abbrev pub IsFrontIn : Spelling → ModuleParts → List ℕ → Type 0
IsFrontIn spelling m =
    Joined (IsSectionIfIn spelling (writes_types m) 1 (IsListIn spelling (IsRecGroupWrittenIn spelling) (contents_of m).types))
    (Joined (IsSectionIfIn spelling (writes_imports m) 2 (IsListIn spelling (IsImportGroupIn spelling) m.imports))
    (Joined (IsSectionIfIn spelling (is_filled (defined m.num_defined_funcs m.funcs)) 3
    (IsListIn spelling (IsIndexIn spelling) (contents_of m).functions))
    (IsSectionIfIn spelling (is_filled m.defined_tables) 4
    (IsListIn spelling (IsTableWrittenIn spelling) (zip (defined (length m.defined_tables) m.tables) m.defined_tables)))))

abbrev pub IsFront : ModuleParts → List ℕ → Type 0
IsFront = IsFrontIn any

-- the sections up to the export section
abbrev pub IsMiddleIn : Spelling → ModuleParts → List ℕ → Type 0
IsMiddleIn spelling m =
    Joined (IsSectionIfIn spelling (is_filled (defined m.num_defined_memories m.memories)) 5
    (IsListIn spelling (IsMemoryTypeIn spelling) (contents_of m).memories))
    (Joined (IsSectionIfIn spelling (is_filled (defined m.num_defined_tags m.tags)) 13
    (IsListIn spelling (IsTagTypeIn spelling) (contents_of m).tags))
    (Joined (IsSectionIfIn spelling (is_filled m.defined_globals) 6 (IsListIn spelling (IsGlobalIn spelling) (contents_of m).globals))
    (IsSectionIfIn spelling (is_filled m.exports) 7 (IsListIn spelling (IsExportIn spelling) m.exports))))

abbrev pub IsMiddle : ModuleParts → List ℕ → Type 0
IsMiddle = IsMiddleIn any

-- the other sections, where `Bodies` spells the content of the code section
abbrev pub IsBackIn : Spelling → ModuleParts → (List ℕ → Type 0) → List ℕ → Type 0
IsBackIn spelling m Bodies =
    Joined (IsStartSectionIn spelling m.start)
    (Joined (IsSectionIfIn spelling (is_filled m.elems) 9 (IsListIn spelling (IsElemWrittenIn spelling) m.elems))
    (Joined (IsSectionIfIn spelling (writes_data_count m) 12 (IsUnsignedIn spelling 32 (length m.datas)))
    (Joined (IsSectionIfIn spelling (is_filled m.code) 10 Bodies)
    (IsSectionIfIn spelling (is_filled m.datas) 11 (IsListIn spelling (IsDataWrittenIn spelling) m.datas)))))

abbrev pub IsBack : ModuleParts → (List ℕ → Type 0) → List ℕ → Type 0
IsBack = IsBackIn any

-- a module as it is written, where `Bodies` spells the content of the code section
abbrev pub IsWrittenIn : Spelling → ModuleParts → (List ℕ → Type 0) → List ℕ → Type 0
IsWrittenIn spelling m Bodies =
    Joined IsPreamble (Joined (IsFrontIn spelling m) (Joined (IsMiddleIn spelling m) (IsBackIn spelling m Bodies)))

-- a module as it is written, with integers in any spelling
abbrev pub IsWritten : ModuleParts → (List ℕ → Type 0) → List ℕ → Type 0
IsWritten = IsWrittenIn any

-- the module's own bodies, as the content of the code section
abbrev pub AreOwnBodiesIn : Spelling → ModuleParts → List ℕ → Type 0
AreOwnBodiesIn spelling m = IsListIn spelling (λ (code : Code). IsBodyWrittenIn spelling (body_of m.fuel_globals code)) m.code

abbrev pub AreOwnBodies : ModuleParts → List ℕ → Type 0
AreOwnBodies = AreOwnBodiesIn any
