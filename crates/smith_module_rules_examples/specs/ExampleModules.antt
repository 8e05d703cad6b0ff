-- Modules of the examples.
use Rattle.std.specs.Prelude.{ℕ, Bool, true, false, pos, negsuc, List, [], ◌∷◌, Some, None, codes, length}
use Rattle.smith_module_rules_examples.specs.Common.{Config, ConstInstr, default_config, funcref, I32, MemoryType, ModuleParts, not_null}
use Rattle.smith_module_rules_examples.specs.Common.{nullable, plain, Ref, Single}
pub use Rattle.smith_types.specs.ExampleTypes.{range as group_of}
use Rattle.smith_types.specs.ExampleTypes.{constant}
use Rattle.smith_types.specs.Syntax.value_type.HeapType.TheVariants.{Concrete}
use Rattle.smith_types.specs.Syntax.value_type.AbstractHeapType.TheVariants as heap
use Rattle.smith_types.specs.Syntax.value_type.ValType.TheVariants.{F32}
use Rattle.smith_types.specs.Syntax.composite_type.StorageType.TheVariants.{Val}
use Rattle.smith_types.specs.Syntax.composite_type.CompositeInnerType.{CompositeInnerType}
use Rattle.smith_types.specs.Syntax.composite_type.CompositeInnerType.TheVariants.{Struct}
use Rattle.smith_types.specs.Syntax.composite_type.SubType.{SubType}
use Rattle.smith_types.specs.Syntax.entity_type.EntityType.TheVariants as entity
use Rattle.smith_types.specs.Syntax.entity_type.ExportKind.{ExportKind}
use Rattle.smith_types.specs.Syntax.entity_type.ExportKind.TheVariants as kind
use Rattle.smith_types.specs.Syntax.imports.Imports.TheVariants.{Compact1, Compact2}
use Rattle.smith_types.specs.Syntax.const_instr.ConstInstr.TheVariants.{I32Const, GlobalGet, F32Const, RefNull}
use Rattle.smith_types.specs.Syntax.segments.Elements.{Elements}
use Rattle.smith_types.specs.Syntax.segments.Elements.TheVariants.{Expressions}
use Rattle.smith_types.specs.Syntax.segments.Offset.{Offset}
use Rattle.smith_types.specs.Syntax.segments.Offset.TheVariants.{Global}
use Rattle.smith_types.specs.Syntax.segments.DataSegmentKind.TheVariants as data_kind
use Rattle.smith_config.specs.ExampleMembers.{a_type, bytes_array, plain_function, foo_type, quux_type}
use Rattle.smith_module_rules_examples.specs.ExampleParts.{memory, shared_memory, table, global, number, import_named, no_function}
use Rattle.smith_module_rules_examples.specs.ExampleParts.{passive_elements, into_a_table, active_data, trapping}

-- an empty module
abbrev pub empty_module : Config → ModuleParts
empty_module configuration = record {
  config = configuration;
  types = [];
  groups = [];
  imports = [];
  num_imports = 0;
  tags = [];
  funcs = [];
  tables = [];
  defined_tables = [];
  memories = [];
  globals = [];
  defined_globals = [];
  num_defined_tags = 0;
  num_defined_funcs = 0;
  num_defined_memories = 0;
  exports = [];
  start = None;
  elems = [];
  datas = [];
  code = [];
  fuel_globals = [];
  encodes_types = false;
  encodes_imports = false;
  type_size = 0;
  interesting_values32 = [];
  interesting_values64 = [];
}

-- an array type and a subtype of it, in one group
abbrev pub arrays : ModuleParts
arrays = record (empty_module default_config) {
  types = a_type bytes_array false None ∷ a_type bytes_array false (Some 0) ∷ [];
  groups = group_of 0 2 ∷ [];
  encodes_types = true;
}

-- a function without parameters and results
abbrev pub one_function : ModuleParts
one_function = record (empty_module default_config) {
  types = a_type plain_function true None ∷ [];
  groups = group_of 0 1 ∷ [];
  funcs = 0 ∷ [];
  num_defined_funcs = 1;
  code = trapping ∷ [];
  encodes_types = true;
}

-- a group without types
abbrev pub empty_group : ModuleParts
empty_group = record (empty_module default_config) { groups = group_of 0 0 ∷ [] }

-- an array type and two subtypes of it, in two groups
abbrev pub three_arrays : ModuleParts
three_arrays = record (empty_module (record default_config { min_types = 3; max_types = 3 })) {
  types = a_type bytes_array false None ∷ a_type bytes_array false (Some 0) ∷ a_type bytes_array false (Some 0) ∷ [];
  groups = group_of 0 2 ∷ group_of 2 3 ∷ [];
  encodes_types = true;
}

-- a table that begins with null references
abbrev pub one_table : ModuleParts
one_table = record (empty_module (record default_config { disallow_traps = true; max_table_elements = 0; min_tables = 1 })) {
  tables = table funcref 1 None ∷ [];
  defined_tables = Some no_function ∷ [];
}

-- a segment of two null references
abbrev pub two_elements : ModuleParts
two_elements = record (empty_module default_config) { elems = passive_elements (Expressions (no_function ∷ no_function ∷ [])) ∷ [] }

-- that segment, and one of one reference
abbrev pub two_segments : ModuleParts
two_segments = record two_elements {
  elems = passive_elements (Expressions (no_function ∷ no_function ∷ [])) ∷ passive_elements
      (Expressions (no_function ∷ [])) ∷ [];
}

-- an import of a number
abbrev pub one_import : ModuleParts
one_import = record (empty_module (record default_config { min_imports = 1 })) {
  imports = Single (import_named [] (entity.Global number)) ∷ [];
  num_imports = 1;
  globals = number ∷ [];
  encodes_imports = true;
  type_size = 2;
}

-- two imports of numbers in one group
abbrev pub two_imports : ModuleParts
two_imports = record (empty_module (record default_config { max_imports = 2; min_globals = 1 })) {
  imports = Compact2 [] (entity.Global number) ([] ∷ codes "b" ∷ []) ∷ [];
  num_imports = 2;
  globals = number ∷ number ∷ [];
  encodes_imports = true;
  type_size = 4;
}

-- a memory
abbrev pub one_memory : ModuleParts
one_memory = record (empty_module (record default_config { min_memories = 1 })) {
  memories = shared_memory 0 ∷ [];
  num_defined_memories = 1;
}

-- three imports of memories in two groups
abbrev pub three_memories : ModuleParts
three_memories = record (empty_module (record default_config { max_memories = 3 })) {
  imports = Compact1 [] (record { name = codes "a"; entity_type = entity.Memory (memory 1 None) } ∷ []) ∷ Compact2 []
      (entity.Memory (memory 1 None)) (codes "b" ∷ codes "c" ∷ []) ∷ [];
  num_imports = 3;
  memories = memory 1 None ∷ memory 1 None ∷ memory 1 None ∷ [];
  encodes_imports = true;
}

-- a memory of a page, and no bytes that are copied to its start
abbrev pub one_data_segment : ModuleParts
one_data_segment = record
    (empty_module (record default_config { disallow_traps = true; bulk_memory_enabled = false; min_memories = 1; min_data_segments = 1 })) {
      memories = shared_memory 1 ∷ [];
      num_defined_memories = 1;
      datas = active_data (pos 0) [] ∷ [];
    }

-- a tag and a function of one type, which is exported, and a segment without references
abbrev pub one_tag : ModuleParts
one_tag = record one_function {
  config = record default_config { min_tags = 1; min_funcs = 1; min_exports = 1; min_element_segments = 1 };
  tags = 0 ∷ [];
  num_defined_tags = 1;
  exports = ([], kind.Func, 0) ∷ [];
  elems = passive_elements (Expressions []) ∷ [];
  type_size = 2;
}

-- a mutable global of a number
abbrev pub one_number : ModuleParts
one_number = record (empty_module default_config) { globals = global I32 true ∷ []; defined_globals = (0, I32Const (pos 7) ∷ []) ∷ [] }

-- a mutable global of a float
abbrev pub a_float : ModuleParts
a_float = record (empty_module default_config) { globals = global F32 true ∷ []; defined_globals = (0, F32Const 0 ∷ []) ∷ [] }

-- a passive data segment
abbrev pub passive_bytes : ModuleParts
passive_bytes = record (empty_module default_config) { datas = record { kind = data_kind.Passive; init = 42 ∷ [] } ∷ [] }

-- a table that begins with the reference of a global, which is imported, or defined
abbrev pub table_from_import : ModuleParts
table_from_import = record (empty_module default_config) {
  imports = Single (import_named [] (entity.Global (global (Ref funcref) false))) ∷ [];
  num_imports = 1;
  tables = table funcref 1 None ∷ [];
  defined_tables = Some (GlobalGet 0 ∷ []) ∷ [];
  globals = global (Ref funcref) false ∷ [];
  encodes_imports = true;
  type_size = 2;
}

abbrev pub table_from_definition : ModuleParts
table_from_definition = record (empty_module default_config) {
  tables = table funcref 1 None ∷ [];
  defined_tables = Some (GlobalGet 0 ∷ []) ∷ [];
  globals = global (Ref funcref) false ∷ [];
  defined_globals = (0, no_function) ∷ [];
}

-- a table of references to functions, after an imported table of other references
abbrev pub table_after : List ConstInstr → ModuleParts
table_after initial = record (empty_module default_config) {
  imports = Single (import_named [] (entity.Table (table (nullable (plain heap.Extern)) 1 None))) ∷ [];
  num_imports = 1;
  tables = table (nullable (plain heap.Extern)) 1 None ∷ table funcref 1 None ∷ [];
  defined_tables = Some initial ∷ [];
  encodes_imports = true;
  type_size = 2;
}

-- a table that begins with a null reference, without garbage collection
abbrev pub table_without_gc : ModuleParts
table_without_gc = record one_table { config = record default_config { gc_enabled = false } }

-- types in one group
abbrev pub types_together : List SubType → ModuleParts
types_together types = record (empty_module default_config) { types = types; groups = group_of 0 (length types) ∷ []; encodes_types = true }

-- two types, each in a group of its own
abbrev pub types_apart : SubType → SubType → ModuleParts
types_apart one other = record (empty_module default_config) {
  types = one ∷ other ∷ [];
  groups = group_of 0 1 ∷ group_of 1 2 ∷ [];
  encodes_types = true;
}

-- a struct of a reference to the type of this index
abbrev pub referring_to : ℕ → CompositeInnerType
referring_to index = Struct (record { fields = constant (Val (Ref (nullable (Concrete index)))) ∷ [] })

-- two memories, where the configuration allows this number
abbrev pub two_memories : ℕ → ModuleParts
two_memories most = record (empty_module (record default_config { max_memories = most })) {
  memories = memory 1 None ∷ memory 1 None ∷ [];
  num_defined_memories = 2;
}

-- a function that is exported with these two names
abbrev pub exported_twice : List ℕ → List ℕ → ModuleParts
exported_twice one other = record one_function { exports = (one, kind.Func, 0) ∷ (other, kind.Func, 0) ∷ []; type_size = 4 }

-- a function without a body
abbrev pub bodiless : ModuleParts
bodiless = record one_function { code = [] }

-- two globals of numbers, not defined in the order of their indices
abbrev pub out_of_order : ModuleParts
out_of_order = record (empty_module default_config) {
  globals = number ∷ number ∷ [];
  defined_globals = (1, I32Const (pos 1) ∷ []) ∷ (0, I32Const (pos 0) ∷ []) ∷ [];
}

-- two functions, both exported
abbrev pub two_exports : ModuleParts
two_exports = record one_function {
  config = record default_config { export_everything = true; max_type_size = 4 };
  funcs = 0 ∷ 0 ∷ [];
  num_defined_funcs = 2;
  code = trapping ∷ trapping ∷ [];
  exports = ([], kind.Func, 0) ∷ (codes "1", kind.Func, 1) ∷ [];
  type_size = 4;
}

-- two imports with these names
abbrev pub named_imports : List ℕ → List ℕ → ModuleParts
named_imports one other = record two_imports { imports = Compact2 [] (entity.Global number) (one ∷ other ∷ []) ∷ [] }

-- a memory of a number of pages, and bytes that are copied to its last address
abbrev pub last_bytes : ℕ → List ℕ → ModuleParts
last_bytes pages bytes = record (empty_module default_config) {
  memories = memory pages None ∷ [];
  num_defined_memories = 1;
  datas = active_data (negsuc 0) bytes ∷ [];
}

-- a function, and a segment of these references, where the configuration requires this number
abbrev pub elements_asked_for : ℕ → Elements → ModuleParts
elements_asked_for least items = record one_function {
  config = record default_config { min_elements = least };
  elems = passive_elements items ∷ [];
}

-- an item of each kind, all exported
abbrev pub one_of_each : ModuleParts
one_of_each = record (empty_module (record default_config { max_memories = 2 })) {
  types = foo_type ∷ quux_type ∷ [];
  groups = group_of 0 1 ∷ group_of 1 2 ∷ [];
  tags = 1 ∷ [];
  funcs = 0 ∷ [];
  tables = table (nullable (plain heap.Extern)) 5 (Some 10) ∷ [];
  defined_tables = Some (RefNull (plain heap.Extern) ∷ []) ∷ [];
  memories = memory 1 (Some 10) ∷ [];
  globals = global F32 false ∷ [];
  defined_globals = (0, F32Const 0 ∷ []) ∷ [];
  num_defined_tags = 1;
  num_defined_funcs = 1;
  num_defined_memories = 1;
  exports = (codes "foo", kind.Func, 0) ∷ (codes "bar", kind.Global, 0) ∷ (codes "baz", kind.Memory, 0) ∷ (codes "qux", kind.Table, 0) ∷
      (codes "quux", kind.Tag, 0) ∷ [];
  code = trapping ∷ [];
  encodes_types = true;
}

-- a segment that copies a function into a table at this offset; the function also starts the module
abbrev pub filled_table : Offset → ModuleParts
filled_table offset = record one_function {
  tables = table funcref 1 None ∷ [];
  defined_tables = None ∷ [];
  start = Some 0;
  elems = into_a_table offset ∷ [];
}

-- a segment that copies a function into a table at the offset of a global, with garbage collection
-- or without
abbrev pub table_from_a_number : Bool → ModuleParts
table_from_a_number gc = record (filled_table (Global 0)) {
  config = record default_config { gc_enabled = gc };
  globals = number ∷ [];
  defined_globals = (0, I32Const (pos 0) ∷ []) ∷ [];
}

-- an imported memory, and an index space of these memories
abbrev pub memories_after : List MemoryType → ModuleParts
memories_after memories = record (empty_module (record default_config { max_memories = 2 })) {
  imports = Single (import_named [] (entity.Memory (memory 1 None))) ∷ [];
  num_imports = 1;
  memories = memories;
  num_defined_memories = 1;
  encodes_imports = true;
  type_size = 2;
}

-- an imported global that counts fuel
abbrev pub imported_counter : ModuleParts
imported_counter = record one_import {
  imports = Single (import_named [] (entity.Global (global I32 true))) ∷ [];
  globals = global I32 true
      ∷ [];
  fuel_globals = 0 ∷ [];
}

-- a table of non-nullable references, without an initialiser
abbrev pub null_of_no_null : ModuleParts
null_of_no_null = record (empty_module default_config) {
  tables = table (not_null (plain heap.Func)) 1 None ∷ [];
  defined_tables = None ∷ [];
}

-- an export of an item of each kind, in the order of kinds
abbrev pub all_of_each : List (List ℕ × ExportKind × ℕ)
all_of_each = ([], kind.Func, 0) ∷ (codes "1", kind.Table, 0) ∷ (codes "2", kind.Memory, 0) ∷ (codes "3", kind.Global, 0) ∷
    (codes "4", kind.Tag, 0) ∷ []

-- a global of the number 7, and a passive data segment
abbrev pub number_and_bytes : ModuleParts
number_and_bytes = record (empty_module default_config) {
  globals = global I32 true ∷ [];
  defined_globals = (0, I32Const (pos 7) ∷ []) ∷ [];
  datas = record { kind = data_kind.Passive; init = 42 ∷ [] } ∷ [];
}
