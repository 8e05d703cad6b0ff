-- Decoded modules that are too long for the binary format.
use Rattle.std.specs.Prelude.{◌⊎◌, ◌^◌, ◌≤◌, List, ◌++◌, length, option_to_list, Any}
use Rattle.smith_binary.specs.Pieces.{Is, IsList, IsName, Joined}
use Rattle.smith_binary_sections.specs.Instructions.{IsIndex}
use Rattle.smith_binary_sections.specs.Entities.{IsMemoryType}
use Rattle.smith_binary_sections.specs.Imports.{IsImportGroup}
use Rattle.smith_binary_sections.specs.Long.{IsLongSection, IsLongList, IsLongContent, IsLongText, IsNeverLong}
use Rattle.smith_binary_sections.specs.Long.{IsLongImportGroup, IsLongSubType}
use Rattle.smith_instr.specs.declared.instr.Instr.{Instr}
use Rattle.smith_binary_instr.specs.Instructions.{IsExpr}
use Rattle.smith_binary_instr.specs.Long.{IsLongInstr}
use Rattle.smith_binary_read.specs.declared.exports.Export.{Export}
use Rattle.smith_binary_read.specs.declared.types.DeclaredType.{DeclaredType}
use Rattle.smith_binary_read.specs.EntityReadings.{IsExportItem}
use Rattle.smith_binary_read.specs.TagReadings.{IsTagDefinition}
use Rattle.smith_decode.specs.declared.bodies.Body.{Body}
use Rattle.smith_decode.specs.declared.customs.Custom.{Custom}
use Rattle.smith_decode.specs.declared.data.DataSegment.{DataSegment}
use Rattle.smith_decode.specs.declared.definitions.GlobalDefinition.{GlobalDefinition}
use Rattle.smith_decode.specs.declared.definitions.TableDefinition.{TableDefinition}
use Rattle.smith_decode.specs.declared.elements.ElementSegment.{ElementSegment}
use Rattle.smith_decode.specs.declared.modules.Module.{Module}
use Rattle.smith_decode.specs.BodyReadings.{IsLocalRun, IsRunBody}
use Rattle.smith_decode.specs.Data as data_segments
use Rattle.smith_decode.specs.DataReadings.{IsSegment, segment_view}
use Rattle.smith_decode.specs.DefinitionReadings.{IsGlobalDefinition, IsTableDefinition}
use Rattle.smith_decode.specs.ElementReadings.{element_view}
use Rattle.smith_decode.specs.Elements as element_segments
use Rattle.smith_decode.specs.Elements.{Elem}
use Rattle.smith_decode.specs.TypeGroups.{declared_groups}
use Rattle.smith_encode.specs.Segments.{IsSeenElem}
use Rattle.smith_encode.specs.WrittenTypes.{IsDeclaredGroupWritten}

-- a type with 2^32 supertypes or more, or whose composite type is too long
abbrev pub IsLongDeclared : DeclaredType → Type 0
IsLongDeclared declared =
    (2 ^ 32 ≤ length (option_to_list declared.sub_type.supertype ++ declared.further_supertypes)) ⊎ IsLongSubType declared.sub_type

-- a group of 2^32 types or more, or with a type that is too long
abbrev pub IsLongDeclaredGroup : List DeclaredType → Type 0
IsLongDeclaredGroup = IsLongList IsLongDeclared

-- an expression has an instruction that the format cannot express
abbrev pub IsLongExpr : List Instr → Type 0
IsLongExpr instructions = Any IsLongInstr instructions

-- a table whose initialiser has an instruction that the format cannot express
abbrev pub IsLongTable : TableDefinition → Type 0
IsLongTable table = IsLongExpr table.initial

-- a global whose initialiser has an instruction that the format cannot express
abbrev pub IsLongGlobal : GlobalDefinition → Type 0
IsLongGlobal global = IsLongExpr global.initial

-- an export with a name that is too long
abbrev pub IsLongExport : Export → Type 0
IsLongExport item = IsLongText item.name

-- an active segment whose offset has an instruction that the format cannot express
abbrev pub IsLongMode : element_segments.Mode → Type 0
IsLongMode (element_segments.Mode.active table offset) = IsLongExpr offset
IsLongMode mode = ⊥

-- an element segment of 2^32 items or more, or with an instruction that the format cannot express
abbrev pub IsLongElem : Elem → Type 0
IsLongElem e = IsLongMode e.mode ⊎ IsLongList IsLongExpr e.items

-- a decoded element segment that is too long
abbrev pub IsLongSegment : ElementSegment → Type 0
IsLongSegment segment = IsLongElem (element_view segment)

-- a body has too many runs of locals, an instruction that the format cannot express, or too many
-- bytes
abbrev pub IsLongBody : Body → Type 0
IsLongBody body =
    IsLongList IsNeverLong body.locals
    ⊎ (IsLongExpr body.instructions ⊎ IsLongContent (Joined (IsList IsLocalRun body.locals) (IsExpr body.instructions)))

-- an active data segment whose offset has an instruction that the format cannot express
abbrev pub IsLongDataMode : data_segments.DataMode → Type 0
IsLongDataMode (data_segments.DataMode.active memory offset) = IsLongExpr offset
IsLongDataMode mode = ⊥

-- a data segment of 2^32 bytes or more, or whose offset has an instruction that the format cannot
-- express
abbrev pub IsLongData : DataSegment → Type 0
IsLongData segment = IsLongDataMode (segment_view segment).mode ⊎ IsLongText segment.bytes

-- a custom section, or its name, has too many bytes
abbrev pub IsLongCustom : Custom → Type 0
IsLongCustom custom = IsLongText custom.name ⊎ IsLongContent (Joined (IsName custom.name) (Is custom.bytes))

-- a section is too long: a list in it has 2^32 items or more, it or a body in it has a spelling of
-- 2^32 bytes or more, or the format cannot express one of its instructions
pub data IsTooLong (m : Module) : Type 0 where
  types : IsLongSection IsDeclaredGroupWritten IsLongDeclaredGroup (declared_groups m.types m.further_supertypes) → IsTooLong m
  imports : IsLongSection IsImportGroup IsLongImportGroup m.imports → IsTooLong m
  functions : IsLongSection IsIndex IsNeverLong m.functions → IsTooLong m
  tables : IsLongSection IsTableDefinition IsLongTable m.tables → IsTooLong m
  memories : IsLongSection IsMemoryType IsNeverLong m.memories → IsTooLong m
  tags : IsLongSection IsTagDefinition IsNeverLong m.tags → IsTooLong m
  globals : IsLongSection IsGlobalDefinition IsLongGlobal m.globals → IsTooLong m
  exports : IsLongSection IsExportItem IsLongExport m.exports → IsTooLong m
  elements : IsLongSection IsSeenElem IsLongSegment m.elements → IsTooLong m
  bodies : IsLongSection IsRunBody IsLongBody m.bodies → IsTooLong m
  datas : IsLongSection IsSegment IsLongData m.datas → IsTooLong m
  customs : Any IsLongCustom m.customs → IsTooLong m
