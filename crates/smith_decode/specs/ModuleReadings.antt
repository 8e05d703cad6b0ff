-- Readings of modules: the section Binary Format, Modules, of the WebAssembly Core Specification 3.0.
use Rattle.std.specs.Prelude.{◌==◌, ◌&&◌, ℕ, Bool, true, not, if◌then◌else◌, List, [], ◌∷◌, length, Option, Some, None}
use Rattle.std.specs.Prelude.{Result, Ok, Err}
use Rattle.smith_decode.specs.Common.{byte_at, DeclaredType, Export, Fault, fault_at, Imports, list_at, mapped_at, MemoryType}
use Rattle.smith_decode.specs.Common.{TagDefinition}
use Rattle.smith_decode.specs.Common.{UnknownByte, unsigned_at, ◌>>=◌}
use Rattle.smith_binary_read.specs.declared.error.Reason.TheVariants.{CountMismatch, DataCountMissing}
use Rattle.smith_binary_read.specs.Readings.{whole_at}
use Rattle.smith_binary_read.specs.TypeReadings.{declared_group_at}
use Rattle.smith_binary_read.specs.EntityReadings.{memory_type_at, export_at}
use Rattle.smith_binary_read.specs.ImportReadings.{import_group_at}
use Rattle.smith_binary_read.specs.TagReadings.{tag_at}
use Rattle.smith_decode.specs.declared.bodies.Body.{Body}
use Rattle.smith_decode.specs.declared.customs.Custom.{Custom}
use Rattle.smith_decode.specs.declared.data.DataSegment.{DataSegment}
use Rattle.smith_decode.specs.declared.definitions.GlobalDefinition.{GlobalDefinition}
use Rattle.smith_decode.specs.declared.definitions.TableDefinition.{TableDefinition}
use Rattle.smith_decode.specs.declared.elements.ElementSegment.{ElementSegment}
use Rattle.smith_decode.specs.declared.modules.Module.{Module}
use Rattle.smith_decode.specs.BodyReadings.{body_at, name_data}
use Rattle.smith_decode.specs.CustomReadings.{customs_at, end_at, more_at, kept_at}
use Rattle.smith_decode.specs.DataReadings as data_segment
use Rattle.smith_decode.specs.DefinitionReadings.{global_at, table_at}
use Rattle.smith_decode.specs.ElementReadings as element
use Rattle.smith_decode.specs.TypeGroups.{groups_further, groups_types}

-- reads exactly the bytes `literal`
abbrev pub literal_at : List ℕ → List ℕ → Result (List ℕ) Fault
literal_at [] bytes = Ok bytes
literal_at (byte ∷ literal) bytes =
    byte_at bytes >>= (λ front. if front.0 == byte then literal_at literal front.1 else fault_at UnknownByte bytes)

-- the magic number and the version (Modules)
abbrev pub preamble : List ℕ
preamble = 0x00 ∷ 0x61 ∷ 0x73 ∷ 0x6D ∷ 0x01 ∷ 0x00 ∷ 0x00 ∷ 0x00 ∷ []

-- reads the preamble (Modules)
unfoldable pub preamble_at : List ℕ → Result (List ℕ) Fault
preamble_at bytes = literal_at preamble bytes

-- reads the content of a start or data count section, a number (Start Section, Data Count Section)
unfoldable pub index_whole : List ℕ → Result (Option ℕ) Fault
index_whole bytes = whole_at (mapped_at (λ n. Some n) (unsigned_at 32)) bytes

-- the bodies and the data segments of a module
abbrev pub Bodies : Type 0
Bodies = List Body × (List DataSegment × Unit {0})

-- the data count of a module, and the parts after it
abbrev pub Counts : Type 0
Counts = Option ℕ × Bodies

-- the start function and the element segments of a module, and the parts after them
abbrev pub Starts : Type 0
Starts = Option ℕ × (List ElementSegment × Counts)

-- the globals and the exports of a module, and the parts after them
abbrev pub Globals : Type 0
Globals = List GlobalDefinition × (List Export × Starts)

-- the memories and the tags of a module, and the parts after them
abbrev pub Memories : Type 0
Memories = List MemoryType × (List TagDefinition × Globals)

-- the functions and the tables of a module, and the parts after them
abbrev pub Functions : Type 0
Functions = List ℕ × (List TableDefinition × Memories)

-- the parts of a module in the order of its sections: the types, the imports and the parts after
-- them
abbrev pub Parts : Type 0
Parts = List (List DeclaredType) × (List Imports × Functions)

-- reads the code section and the data section
unfoldable pub bodies_at : List ℕ → Result Bodies Fault
bodies_at bytes = more_at 10 [] (whole_at (list_at body_at)) (more_at 11 [] (whole_at (list_at data_segment.segment_at)) end_at) bytes

-- reads the data count section and the sections after it
unfoldable pub counts_at : List ℕ → Result Counts Fault
counts_at bytes = more_at 12 None index_whole bodies_at bytes

-- reads the start section, the element section and the sections after them
unfoldable pub starts_at : List ℕ → Result Starts Fault
starts_at bytes = more_at 8 None index_whole (more_at 9 [] (whole_at (list_at element.segment_at)) counts_at) bytes

-- reads the global section, the export section and the sections after them
unfoldable pub globals_at : List ℕ → Result Globals Fault
globals_at bytes = more_at 6 [] (whole_at (list_at global_at)) (more_at 7 [] (whole_at (list_at export_at)) starts_at) bytes

-- reads the memory section, the tag section and the sections after them
unfoldable pub memories_at : List ℕ → Result Memories Fault
memories_at bytes = more_at 5 [] (whole_at (list_at memory_type_at)) (more_at 13 [] (whole_at (list_at tag_at)) globals_at) bytes

-- reads the function section, the table section and the sections after them
unfoldable pub functions_at : List ℕ → Result Functions Fault
functions_at bytes = more_at 3 [] (whole_at (list_at (unsigned_at 32))) (more_at 4 [] (whole_at (list_at table_at)) memories_at) bytes

-- reads all sections of a module
unfoldable pub parts_at : List ℕ → Result Parts Fault
parts_at bytes = more_at 1 [] (whole_at (list_at declared_group_at)) (more_at 2 [] (whole_at (list_at import_group_at)) functions_at) bytes

-- a module with these parts and without custom sections
abbrev pub module_of : Parts → Module
module_of p = record {
  types = groups_types p.0;
  further_supertypes = groups_further p.0;
  imports = p.1.0;
  functions = p.1.1.0;
  tables = p.1.1.1.0;
  memories = p.1.1.1.1.0;
  tags = p.1.1.1.1.1.0;
  globals = p.1.1.1.1.1.1.0;
  exports = p.1.1.1.1.1.1.1.0;
  start = p.1.1.1.1.1.1.1.1.0;
  elements = p.1.1.1.1.1.1.1.1.1.0;
  data_count = p.1.1.1.1.1.1.1.1.1.1.0;
  bodies = p.1.1.1.1.1.1.1.1.1.1.1.0;
  datas = p.1.1.1.1.1.1.1.1.1.1.1.1.0;
  customs = [];
}

-- a module with these custom sections
abbrev pub with_customs : Module → List Custom → Module
with_customs m customs = record m { customs = customs }

-- reads all sections of a module as a module without custom sections
unfoldable pub sections_at : List ℕ → Result Module Fault
sections_at bytes = parts_at bytes >>= (λ parts. Ok (module_of parts))

-- whether a stated number, if there is one, is `n`
abbrev pub is_number : Option ℕ → ℕ → Bool
is_number None n = true
is_number (Some stated) n = stated == n

-- whether the module has a body for each function, and as many data segments as its data count
-- section states, if it has one (Modules)
abbrev pub counts_agree : Module → Bool
counts_agree m = (length m.functions == length m.bodies) && is_number m.data_count (length m.datas)

-- whether a number is stated, if `named` is true
abbrev pub is_stated_if : Bool → Option ℕ → Bool
is_stated_if named None = not named
is_stated_if named (Some stated) = true

-- whether the module has a data count section, if a body names a data segment (Modules)
abbrev pub count_suffices : Module → Bool
count_suffices m = is_stated_if (name_data m.bodies) m.data_count

-- the module, or a fault at the end of the bytes if the numbers of its items disagree or a data
-- count section is missing (Modules)
abbrev pub if_counts_agree : Module → Result Module Fault
if_counts_agree m =
    if counts_agree m then (if count_suffices m then Ok m else Err (record { left = 0; reason = DataCountMissing }))
    else Err (record { left = 0; reason = CountMismatch })

-- reads a module after its preamble, without its custom sections (Modules)
unfoldable pub checked_at : List ℕ → Result Module Fault
checked_at bytes = customs_at bytes >>= (λ settled. sections_at settled >>= (λ m. if_counts_agree m))

-- reads a module (Modules)
unfoldable pub module_at : List ℕ → Result Module Fault
module_at bytes =
    preamble_at bytes >>= (λ rest. checked_at rest >>= (λ m. kept_at rest >>= (λ customs. Ok (with_customs m customs))))
