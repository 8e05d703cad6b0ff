-- Modules with custom sections: the section Binary Format, Modules, of the WebAssembly Core
-- Specification 3.0.
use Rattle.std.specs.Prelude.{◌≡◌, ℕ, Bool, false, Option, Some, None, List, [], ◌∷◌, length, map, IfSome}
use Rattle.std.specs.List.{list_any}
use Rattle.smith_decode.specs.Common.{DeclaredType, Export, GlobalType, Instr, IsIndex, IsList, IsNestedExpr, IsUnsigned, Joined}
use Rattle.smith_decode.specs.Common.{MemoryType, SubType}
use Rattle.smith_decode.specs.Common.{TableType, TagDefinition, ValType}
use Rattle.smith_binary.specs.Pieces.{IsSized}
use Rattle.smith_types.specs.Syntax.entity_type.ExportKind.{ExportKind}
use Rattle.smith_types.specs.Syntax.imports.Import.{Import}
use Rattle.smith_instr.specs.Enabled.{names_data}
use Rattle.smith_types.specs.Imports.{flattened}
use Rattle.smith_binary_sections.specs.Entities.{IsMemoryType, IsTagType}
use Rattle.smith_binary_sections.specs.Imports.{IsImports}
use Rattle.smith_binary_sections.specs.Exports.{IsExport}
use Rattle.smith_binary_sections.specs.Codes.{IsLocals}
use Rattle.smith_binary_sections.specs.Modules.{IsPreamble}
use Rattle.smith_binary_read.specs.DeclaredTypes.{IsDeclaredGroup}
use Rattle.smith_decode.specs.TypeGroups.{AreAligned, declared_groups}
use Rattle.smith_decode.specs.declared.customs.Custom.{Custom}
use Rattle.smith_decode.specs.declared.definitions.GlobalDefinition.{GlobalDefinition}
use Rattle.smith_decode.specs.declared.definitions.TableDefinition.{TableDefinition}
use Rattle.smith_decode.specs.declared.modules.Module.{Module}
use Rattle.smith_decode.specs.BodyReadings.{body_view}
use Rattle.smith_decode.specs.Data.{Data, IsData}
use Rattle.smith_decode.specs.DataReadings.{segment_view}
use Rattle.smith_decode.specs.Definitions.{IsTable, IsGlobal}
use Rattle.smith_decode.specs.ElementReadings.{element_view}
use Rattle.smith_decode.specs.Elements.{Elem, IsElem}
use Rattle.smith_decode.specs.Customs.{AreCustoms, IsThen, HasCustoms}

-- the content of a start or data count section: a number (Start Section, Data Count Section)
pub record IsStated (stated : Option ℕ) (piece : List ℕ) : Type 0 where
  pub number : ℕ
  pub is : stated ≡ Some number
  pub form : IsUnsigned 32 number piece

-- A module in the abstract syntax, with its custom sections (Structure, Modules). Functions are two
-- lists, as in the binary format: `functions` has their type indices, `bodies` their locals and
-- instructions. `further_supertypes` has the supertypes of each type past its first.
pub record Syntax : Type 0 where
  pub types : List (List SubType)
  pub further_supertypes : List (List (List ℕ))
  pub imports : List Import
  pub functions : List ℕ
  pub tables : List (TableType × List Instr)
  pub memories : List MemoryType
  pub tags : List ℕ
  pub globals : List (GlobalType × List Instr)
  pub exports : List (List ℕ × ExportKind × ℕ)
  pub start : Option ℕ
  pub elems : List Elem
  pub bodies : List (List ValType × List Instr)
  pub datas : List Data
  pub customs : List Custom

-- the types of a module with all of their supertypes (Type Section)
abbrev pub declared_types : Syntax → List (List DeclaredType)
declared_types m = declared_groups m.types m.further_supertypes

-- the size of a body, its locals, then its expression (Code Section)
abbrev pub IsFunctionBody : List ValType × List Instr → List ℕ → Type 0
IsFunctionBody body = IsSized (Joined (IsLocals body.0) (IsNestedExpr body.1))

-- the sections in order, with custom sections before, between and after them; `count` is the number
-- in the data count section, if there is one (Modules)
abbrev pub AreSections : Syntax → Option ℕ → List ℕ → Type 0
AreSections m count =
    IsThen 1 (declared_types m ≡ []) (IsList IsDeclaredGroup (declared_types m))
    (IsThen 2 (m.imports ≡ []) (IsImports m.imports)
    (IsThen 3 (m.functions ≡ []) (IsList IsIndex m.functions)
    (IsThen 4 (m.tables ≡ []) (IsList IsTable m.tables)
    (IsThen 5 (m.memories ≡ []) (IsList IsMemoryType m.memories)
    (IsThen 13 (m.tags ≡ []) (IsList IsTagType m.tags)
    (IsThen 6 (m.globals ≡ []) (IsList IsGlobal m.globals)
    (IsThen 7 (m.exports ≡ []) (IsList IsExport m.exports)
    (IsThen 8 (m.start ≡ None) (IsStated m.start)
    (IsThen 9 (m.elems ≡ []) (IsList IsElem m.elems)
    (IsThen 12 (count ≡ None) (IsStated count)
    (IsThen 10 (m.bodies ≡ []) (IsList IsFunctionBody m.bodies)
    (IsThen 11 (m.datas ≡ []) (IsList IsData m.datas) AreCustoms))))))))))))

-- whether an instruction of the body names a data segment (Data Count Section)
abbrev pub body_names_data : List ValType × List Instr → Bool
body_names_data body = list_any names_data body.1

-- The bytes are a module: the preamble, then its sections (Modules). It has a body for each
-- function, and as many data segments as its data count section states. Without a data count
-- section, no body names a data segment. `customs` are its custom sections. Each of its types has a
-- list of further supertypes.
pub record IsModuleBinary (m : Syntax) (bytes : List ℕ) : Type 0 where
  pub count : Option ℕ
  pub form : Joined IsPreamble (AreSections m count) bytes
  pub bodies : length m.functions ≡ length m.bodies
  pub datas : IfSome count (λ stated. stated ≡ length m.datas)
  pub named : count ≡ None → list_any body_names_data m.bodies ≡ false
  pub customs : HasCustoms m.customs form.second
  pub aligned : AreAligned m.types m.further_supertypes

-- a table in the abstract syntax: its type and its initialiser (Structure, Tables)
abbrev pub table_pair : TableDefinition → TableType × List Instr
table_pair table = (table.ty, table.initial)

-- a tag in the abstract syntax: its type index (Structure, Tags)
abbrev pub tag_index : TagDefinition → ℕ
tag_index tag = tag.0

-- a global in the abstract syntax: its type and its initialiser (Structure, Globals)
abbrev pub global_pair : GlobalDefinition → GlobalType × List Instr
global_pair global = (global.ty, global.initial)

-- an export in the abstract syntax: its name, and the kind and the index of its item (Structure,
-- Exports)
abbrev pub export_triple : Export → List ℕ × ExportKind × ℕ
export_triple item = (item.name, item.kind, item.index)

-- a decoded module in the abstract syntax, where imports and locals are listed one by one, and
-- function indices in element segments are expressions (Structure, Modules)
abbrev pub syntax_of : Module → Syntax
syntax_of m = record {
  types = m.types;
  further_supertypes = m.further_supertypes;
  imports = flattened m.imports;
  functions = m.functions;
  tables = map table_pair m.tables;
  memories = m.memories;
  tags = map tag_index m.tags;
  globals = map global_pair m.globals;
  exports = map export_triple m.exports;
  start = m.start;
  elems = map element_view m.elements;
  bodies = map body_view m.bodies;
  datas = map segment_view m.datas;
  customs = m.customs;
}

-- each body has the locals of its counterpart, whose bytes spell its expression (Code Section)
abbrev pub AreBodiesOf : List (List ValType × List Instr) → List (List ValType × List ℕ) → Type 0
AreBodiesOf [] [] = Unit {0}
AreBodiesOf (body ∷ bodies) (raw ∷ raws) = (body.0 ≡ raw.0) × IsNestedExpr body.1 raw.1 × AreBodiesOf bodies raws
AreBodiesOf [] (raw ∷ raws) = ⊥
AreBodiesOf (body ∷ bodies) [] = ⊥
