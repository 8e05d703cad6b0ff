-- Modules that are too long for the binary format.
use Rattle.smith_module_rules.specs.Module.{ModuleParts}
use Rattle.smith_binary_sections.specs.Types.{IsRecGroupWritten}
use Rattle.smith_binary_sections.specs.Instructions.{IsIndex}
use Rattle.smith_binary_sections.specs.Entities.{IsMemoryType, IsTagType}
use Rattle.smith_binary_sections.specs.Imports.{IsImportGroup}
use Rattle.smith_binary_sections.specs.Definitions.{IsTable, IsGlobal}
use Rattle.smith_binary_sections.specs.Exports.{IsExport}
use Rattle.smith_binary_sections.specs.Elements.{IsElem}
use Rattle.smith_binary_sections.specs.Codes.{IsBodyWritten}
use Rattle.smith_binary_sections.specs.Data.{IsData}
use Rattle.smith_binary_sections.specs.Long.{IsLongSection, IsNeverLong, IsLongGroup, IsLongImportGroup, IsLongExport, IsLongElem}
use Rattle.smith_binary_sections.specs.Long.{IsLongBody, IsLongData}
use Rattle.smith_binary_module.specs.Contents.{contents_of}

-- A section is too long: it has a list of 2^32 items or more, or it or a body in it has a spelling
-- of 2^32 bytes or more. In bodies each local is a run of its own, because empty runs could make
-- any body too long.
pub data IsTooLong (m : ModuleParts) : Type 0 where
  types : IsLongSection IsRecGroupWritten IsLongGroup (contents_of m).types → IsTooLong m
  imports : IsLongSection IsImportGroup IsLongImportGroup m.imports → IsTooLong m
  functions : IsLongSection IsIndex IsNeverLong (contents_of m).functions → IsTooLong m
  tables : IsLongSection IsTable IsNeverLong (contents_of m).tables → IsTooLong m
  memories : IsLongSection IsMemoryType IsNeverLong (contents_of m).memories → IsTooLong m
  tags : IsLongSection IsTagType IsNeverLong (contents_of m).tags → IsTooLong m
  globals : IsLongSection IsGlobal IsNeverLong (contents_of m).globals → IsTooLong m
  exports : IsLongSection IsExport IsLongExport m.exports → IsTooLong m
  elems : IsLongSection IsElem IsLongElem (contents_of m).elems → IsTooLong m
  bodies : IsLongSection IsBodyWritten IsLongBody (contents_of m).bodies → IsTooLong m
  datas : IsLongSection IsData IsLongData (contents_of m).datas → IsTooLong m
