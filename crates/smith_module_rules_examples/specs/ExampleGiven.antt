-- Modules of the examples, for stated inputs: each list has a module that a generator should
-- produce.
use Rattle.std.specs.Prelude.{ℕ, Bool, true, false, pos, negsuc, List, [], ◌∷◌, Some, None, codes, replicate}
use Rattle.smith_module_rules_examples.specs.Common.{Config, ConstInstr, default_config, funcref, I32, MemoryType, ModuleParts, Single}
use Rattle.smith_types.specs.ExampleTypes.{anyref, variable}
use Rattle.smith_types.specs.Syntax.composite_type.StorageType.TheVariants.{Val}
use Rattle.smith_types.specs.Syntax.composite_type.CompositeInnerType.TheVariants.{Array}
use Rattle.smith_types.specs.Syntax.entity_type.EntityType.TheVariants as entity
use Rattle.smith_types.specs.Syntax.entity_type.ExportKind.TheVariants as kind
use Rattle.smith_types.specs.Syntax.imports.Imports.{Imports}
use Rattle.smith_types.specs.Syntax.const_instr.ConstInstr.TheVariants.{I32Const}
use Rattle.smith_types.specs.Syntax.segments.Elements.TheVariants.{Expressions}
use Rattle.smith_types.specs.Syntax.code.Code.{Code}
use Rattle.smith_types.specs.Syntax.code.Instructions.TheVariants.{Arbitrary}
use Rattle.smith_config.specs.ExampleMembers.{final, struct_of, taking_a_number, one_of_each_without_gc, nothing_may_be, a_type}
use Rattle.smith_config.specs.ExampleMembers.{bytes_array}
use Rattle.smith_module_rules_examples.specs.ExampleParts.{memory, shared_memory, table, global, number, import_named, no_function}
use Rattle.smith_module_rules_examples.specs.ExampleParts.{passive_elements, trapping}
use Rattle.smith_module_rules_examples.specs.ExampleModules.{empty_module, group_of, types_together, types_apart, two_imports, last_bytes}

-- an array type twice, the second time in a group of its own
abbrev pub cloned : ModuleParts
cloned = types_apart (a_type bytes_array false None) (a_type bytes_array false None)

-- an array type, and in a group of its own a struct that refers to it
abbrev pub array_and_struct_apart : ModuleParts
array_and_struct_apart = types_apart (final bytes_array) (final (struct_of 0))

-- an array of references to anything
abbrev pub references_array : ModuleParts
references_array = types_together (final (Array (record { 0 = variable (Val anyref) })) ∷ [])

-- an empty module with both sections, for a configuration that allows nothing
abbrev pub nothing_allowed : ModuleParts
nothing_allowed = record
    (empty_module (record nothing_may_be {
      max_type_size = 0;
      max_memory32_bytes = 0;
      max_memory64_bytes = 0;
      max_table_elements = 0;
      const_expr_fuel = 0;
    })) {
      encodes_types = true;
      encodes_imports = true;
    }

-- a function with a parameter that is a number, without garbage collection
abbrev pub without_gc : ModuleParts
without_gc = record (empty_module one_of_each_without_gc) {
  types = final taking_a_number ∷ [];
  groups = group_of 0 1 ∷ [];
  funcs = 0 ∷ [];
  num_defined_funcs = 1;
  code = trapping ∷ [];
  encodes_types = true;
}

-- a body of raw bytes
abbrev pub raw_bytes : Code
raw_bytes = record { locals = []; instructions = Arbitrary (7 ∷ 8 ∷ []) }

-- the same function with raw bytes for its body
abbrev pub raw_body : ModuleParts
raw_body = record without_gc { config = record one_of_each_without_gc { allow_invalid_funcs = true }; code = raw_bytes ∷ [] }

-- the same function, with one global that counts fuel, and with two
abbrev pub counting_once : ModuleParts
counting_once = record without_gc {
  globals = global I32 true ∷ [];
  defined_globals = (0, I32Const (negsuc 0) ∷ []) ∷ [];
  fuel_globals = 0 ∷ [];
}

abbrev pub counting_fuel : ModuleParts
counting_fuel = record without_gc {
  globals = global I32 true ∷ global I32 true ∷ [];
  defined_globals = (0, I32Const (negsuc 0) ∷ []) ∷ (1, I32Const (pos 5) ∷ []) ∷ [];
  fuel_globals = 0 ∷ 1 ∷ [];
}

-- a global that counts fuel, after two imported numbers
abbrev pub counting_after : ModuleParts
counting_after = record two_imports {
  globals = number ∷ number ∷ global I32 true ∷ [];
  defined_globals = (2, I32Const (pos 5) ∷ []) ∷ [];
  fuel_globals = 2 ∷ [];
}

-- an import of a number with this name
abbrev pub number_named : List ℕ → Imports
number_named name = Single (import_named name (entity.Global number))

-- two imports of numbers, the second with this name
abbrev pub two_singles : List ℕ → ModuleParts
two_singles name = record (empty_module (record default_config { min_imports = 2; max_imports = 2 })) {
  imports = number_named [] ∷ number_named name ∷ [];
  num_imports = 2;
  globals = number ∷ number ∷ [];
  encodes_imports = true;
  type_size = 4;
}

-- three imports of memories, each in a group of its own
abbrev pub memories_one_by_one : ModuleParts
memories_one_by_one =
    let imported = λ (name : List ℕ). Single (import_named name (entity.Memory (memory 1 None))) in
    record (empty_module (record default_config { max_memories = 3; compact_imports_enabled = false })) {
      imports = imported (codes "a") ∷ imported (codes "b") ∷ imported (codes "c") ∷ [];
      num_imports = 3;
      memories = memory 1 None ∷ memory 1 None ∷ memory 1 None ∷ [];
      encodes_imports = true;
    }

-- a table of this number of references, without an initialiser
abbrev pub null_table : ℕ → ModuleParts
null_table minimum = record (empty_module (record default_config { min_tables = 1 })) {
  tables = table funcref minimum None ∷ [];
  defined_tables = None ∷ [];
}

-- a module with this memory only
abbrev pub memory_alone : Config → MemoryType → ModuleParts
memory_alone config one = record (empty_module config) { memories = one ∷ []; num_defined_memories = 1 }

-- a memory with all addresses of 32 bits
abbrev pub full_memory : ModuleParts
full_memory = memory_alone (record default_config { min_memories = 1 }) (memory 65536 (Some 65536))

-- a memory of one page, though the configuration allows no byte, with `disallow_traps`
abbrev pub forced_page : ModuleParts
forced_page = memory_alone (record default_config { disallow_traps = true; max_memory32_bytes = 0; min_memories = 1 }) (shared_memory 1)

-- a byte that is copied to the last address of a memory
abbrev pub last_byte : ModuleParts
last_byte = record (last_bytes 65536 (42 ∷ [])) {
  config = record default_config {
    disallow_traps = true;
    bulk_memory_enabled = false;
    min_memories = 1;
    min_data_segments = 1;
    max_data_segments = 1;
  };
}

-- a segment of sixty null references
abbrev pub sixty_elements : ModuleParts
sixty_elements = record (empty_module (record default_config { min_element_segments = 1; min_elements = 60 })) {
  elems = passive_elements (Expressions (replicate 60 no_function)) ∷ [];
}

-- an exported global of a number
abbrev pub exported_number : ModuleParts
exported_number = record (empty_module (record default_config { min_globals = 1 })) {
  globals = number ∷ [];
  defined_globals = (0, I32Const (pos 0) ∷ []) ∷ [];
  exports = ([], kind.Global, 0) ∷ [];
  type_size = 2;
}

-- three globals of numbers, the second and the third with this initialiser, with garbage collection
-- or without
abbrev pub three_numbers : Bool → ConstInstr → ModuleParts
three_numbers gc later = record (empty_module (record default_config { gc_enabled = gc; min_globals = 3; max_globals = 3 })) {
  globals = number ∷ number ∷ number ∷ [];
  defined_globals = (0, I32Const (pos 0) ∷ []) ∷ (1, later ∷ []) ∷ (2, later ∷ []) ∷ [];
}
