-- Modules of the examples whose globals begin with an imported item, or hold non-nullable
-- references.
use Rattle.std.specs.Prelude.{ℕ, true, false, List, [], ◌∷◌}
use Rattle.smith_types.specs.Syntax.value_type.HeapType.{HeapType}
use Rattle.smith_module_rules_examples.specs.Common.{Config, default_config, ModuleParts, not_null, nullable, Ref, Single}
use Rattle.smith_types.specs.Syntax.entity_type.EntityType.TheVariants as entity
use Rattle.smith_types.specs.Syntax.const_instr.ConstInstr.TheVariants.{GlobalGet, RefFunc}
use Rattle.smith_types.specs.Syntax.composite_type.SubType.{SubType}
use Rattle.smith_module_rules_examples.specs.ExampleModules.{empty_module, one_function, one_import}
use Rattle.smith_module_rules_examples.specs.ExampleParts.{global, number, import_named}

-- a global that begins with the value of an imported one, without garbage collection
abbrev pub imported_read : ModuleParts
imported_read = record one_import {
  config = record default_config { gc_enabled = false };
  globals = number ∷ number ∷ [];
  defined_globals = (1, GlobalGet 0 ∷ []) ∷ [];
}

-- an imported function and a defined one of one type, and a global for a reference of this type,
-- which begins with the function of this index
abbrev pub refers_to_function : HeapType → ℕ → ModuleParts
refers_to_function heap_type function = record one_function {
  config = record default_config { custom_descriptors_enabled = true };
  imports = Single (import_named [] (entity.Func 0)) ∷ [];
  num_imports = 1;
  funcs = 0 ∷ 0 ∷ [];
  globals = global (Ref (nullable heap_type)) false ∷ [];
  defined_globals = (0, RefFunc function ∷ []) ∷ [];
  encodes_imports = true;
  type_size = 2;
}

-- a configuration that allows non-nullable references
abbrev pub with_references : Config
with_references = record default_config { non_nullable_enabled = true }

-- these types, and a global of a non-nullable reference
abbrev pub holding_reference : List SubType → HeapType → ModuleParts
holding_reference types heap_type = record (empty_module default_config) {
  types = types;
  globals = global (Ref (not_null heap_type)) false
      ∷ [];
}
