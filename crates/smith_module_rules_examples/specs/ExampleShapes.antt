-- Shapes of the examples, and modules that keep them or not.
use Rattle.std.specs.Prelude.{ℕ, true, false, List, [], ◌∷◌, Some, None, codes, map}
use Rattle.smith_module_rules_examples.specs.Common.{Config, default_config, funcref, ModuleParts, not_null, nullable, plain, Ref, Single}
use Rattle.smith_types.specs.Syntax.value_type.AbstractHeapType.TheVariants as heap
use Rattle.smith_types.specs.Syntax.value_type.HeapType.TheVariants.{Concrete}
use Rattle.smith_types.specs.Syntax.value_type.ValType.TheVariants.{F32}
use Rattle.smith_types.specs.Syntax.entity_type.EntityType.TheVariants as entity
use Rattle.smith_types.specs.Syntax.entity_type.ExportKind.{ExportKind}
use Rattle.smith_types.specs.Syntax.entity_type.ExportKind.TheVariants as kind
use Rattle.smith_types.specs.Syntax.imports.Import.{Import}
use Rattle.smith_types.specs.Syntax.imports.Imports.TheVariants.{Compact1, Compact2}
pub use Rattle.smith_config.specs.ExampleShapes.{empty_shape}
use Rattle.smith_config.specs.declared.shape.Shape.{Shape}
use Rattle.smith_config.specs.ExampleMembers.{alone, final, taking_a_number, foo_type, quux_type, taking}
use Rattle.smith_module_rules_examples.specs.ExampleParts.{import_named, memory, table, global, trapping}
use Rattle.smith_module_rules_examples.specs.ExampleModules.{empty_module, group_of, three_memories}

-- a configuration with a shape for one use
abbrev pub for_module : Shape → Config → Config
for_module shape config = record config { module_shape = Some shape }

abbrev pub for_imports : Shape → Config → Config
for_imports shape config = record config { available_imports = Some shape }

abbrev pub for_exports : Shape → Config → Config
for_exports shape config = record config { exports = Some shape }

-- groups of imported memories, two of them empty
abbrev pub imported_memories : Shape
imported_memories = record empty_shape {
  imports =
      Compact1 [] (record { name = codes "a"; entity_type = entity.Memory (memory 1 None) } ∷ []) ∷ Compact1 [] [] ∷ Compact2 []
      (entity.Memory (memory 1 None)) (codes "b" ∷ codes "c" ∷ [])
      ∷ Compact2 [] (entity.Memory (memory 1 None)) [] ∷ [];
}

-- these memories, and an exported one
abbrev pub memories_in_and_out : Shape
memories_in_and_out = record imported_memories { memories = memory 1 None ∷ []; exports = (codes "d", kind.Memory, 3) ∷ [] }

-- these memories one by one
abbrev pub memory_named : List ℕ → Import
memory_named name = record { «module» = []; name = name; entity_type = entity.Memory (memory 1 None) }

-- imports of a function with a parameter that is a number, and of a memory
abbrev pub ping : Import
ping = record { «module» = codes "env"; name = codes "ping"; entity_type = entity.Func 0 }

abbrev pub shared_bytes : Import
shared_bytes = record { «module» = codes "env"; name = codes "memory"; entity_type = entity.Memory (memory 1 None) }

abbrev pub environment : Shape
environment = record empty_shape { groups = alone taking_a_number ∷ []; imports = Single ping ∷ Single shared_bytes ∷ [] }

-- a module that imports both, and one that imports only the first
abbrev pub with_environment : ModuleParts
with_environment = record (empty_module default_config) {
  types = final taking_a_number ∷ [];
  groups = group_of 0 1 ∷ [];
  imports = Single ping ∷ Single shared_bytes ∷ [];
  num_imports = 2;
  funcs = 0 ∷ [];
  memories = memory 1 None ∷ [];
  encodes_types = true;
  encodes_imports = true;
  type_size = 3;
}

abbrev pub with_ping : ModuleParts
with_ping = record with_environment { imports = Single ping ∷ []; num_imports = 1; memories = []; type_size = 2 }

-- an exported global and an exported memory
abbrev pub exporting : Shape
exporting = record empty_shape {
  memories = memory 1 (Some 10) ∷ [];
  globals = global F32 false ∷ [];
  exports = (codes "bar", kind.Global, 0) ∷ (codes "baz", kind.Memory, 0) ∷ [];
}

-- an exported function, global, memory, table and tag
abbrev pub five_exports : Shape
five_exports = record empty_shape {
  groups = (foo_type ∷ []) ∷ (quux_type ∷ []) ∷ [];
  funcs = 0 ∷ [];
  tags = 1 ∷ [];
  tables = table (nullable (plain heap.Extern)) 5 (Some 10) ∷ [];
  memories = memory 1 (Some 10) ∷ [];
  globals = global F32 false ∷ [];
  exports = (codes "foo", kind.Func, 0) ∷ (codes "bar", kind.Global, 0) ∷ (codes "baz", kind.Memory, 0) ∷ (codes "qux", kind.Table, 0) ∷
      (codes "quux", kind.Tag, 0) ∷ [];
}

-- an import of each kind, in the order of tags, functions, tables, memories and globals
abbrev pub imported_kinds : List Import
imported_kinds =
    import_named (codes "t") (entity.Tag 0) ∷ import_named (codes "f") (entity.Func 0) ∷ import_named (codes "e")
    (entity.Table (table funcref 1 None))
    ∷ import_named (codes "m") (entity.Memory (memory 1 None)) ∷ import_named (codes "g") (entity.Global (global F32 false)) ∷ []

-- these imports
abbrev pub five_imports : Shape
five_imports = record empty_shape { groups = alone taking_a_number ∷ []; imports = map Single imported_kinds }

-- an exported function of the first of two equal types
abbrev pub equal_types : Shape
equal_types = record empty_shape {
  groups = (foo_type ∷ []) ∷ (foo_type ∷ []) ∷ [];
  funcs = 0 ∷ [];
  exports = (codes "f", kind.Func, 0)
      ∷ [];
}

-- a module that exports a function of the type of this index
abbrev pub of_equal_types : ℕ → ModuleParts
of_equal_types index = record (empty_module default_config) {
  types = foo_type ∷ foo_type ∷ [];
  groups = group_of 0 1 ∷ group_of 1 2 ∷ [];
  funcs = index ∷ [];
  num_defined_funcs = 1;
  exports = (codes "f", kind.Func, 0) ∷ [];
  code = trapping ∷ [];
  encodes_types = true;
}

-- a module that imports and exports such memories
abbrev pub with_memories_in_and_out : ModuleParts
with_memories_in_and_out = record three_memories {
  memories = memory 1 None ∷ memory 1 None ∷ memory 1 None ∷ memory 1 None ∷ [];
  num_defined_memories = 1;
  exports = (codes "d", kind.Memory, 3) ∷ [];
}

-- the function and the memory imported in one group
abbrev pub in_one_group : ModuleParts
in_one_group = record with_environment {
  imports = Compact1 (codes "env") (record { name = codes "ping"; entity_type = entity.Func 0 } ∷ record {
    name = codes "memory";
    entity_type = entity.Memory (memory 1 None);
  } ∷ []) ∷ [];
}

-- a module with these entities, and with these exports
abbrev pub exported : List (List ℕ × ExportKind × ℕ) → ModuleParts
exported exports = record (empty_module default_config) {
  memories = memory 1 (Some 10) ∷ [];
  num_defined_memories = 1;
  globals = global F32 false ∷ [];
  exports = exports;
}

-- a global of a non-nullable reference
abbrev pub non_nullable : Shape
non_nullable = record empty_shape {
  globals = global (Ref (not_null (plain heap.Extern))) false ∷ [];
  exports = (codes "g", kind.Global, 0)
      ∷ [];
}

-- a function type with a parameter that is a non-nullable reference
abbrev pub taking_non_nullable : Shape
taking_non_nullable = record empty_shape { groups = alone (taking (Ref (not_null (plain heap.Extern)))) ∷ [] }

-- an exported table, and a memory that is exported twice with one name
abbrev pub table_exported : Shape
table_exported = record empty_shape { tables = table funcref 1 None ∷ []; exports = (codes "t", kind.Table, 0) ∷ [] }

abbrev pub twice_exported : Shape
twice_exported = record empty_shape {
  memories = memory 1 None ∷ [];
  exports = (codes "m", kind.Memory, 0) ∷ (codes "m", kind.Memory, 0)
      ∷ [];
}

-- a memory that may be imported
abbrev pub memory_available : Shape
memory_available = record empty_shape { imports = Single shared_bytes ∷ [] }

-- a configuration that requires two imports of any kind
abbrev pub room_for_two : Config
room_for_two = record default_config { min_imports = 2; max_memories = 2; max_tables = 2 }

-- a global of references to a type that does not exist
abbrev pub untyped : Shape
untyped = record empty_shape { globals = global (Ref (nullable (Concrete 0))) false ∷ [] }
