-- Types, configurations and index spaces of the examples of definitions.
use Rattle.std.specs.Prelude.{false, List, [], ◌∷◌, Some, None}
use Rattle.smith_types.specs.ExampleTypes.{shared_type, plain_func}
use Rattle.smith_types.specs.Flags.{funcref}
use Rattle.smith_types.specs.Imports.{EntitySpaces}
use Rattle.smith_types.specs.Syntax.composite_type.SubType.{SubType}
use Rattle.smith_types.specs.Syntax.entity_type.GlobalType.{GlobalType}
use Rattle.smith_types.specs.Syntax.entity_type.MemoryType.{MemoryType}
use Rattle.smith_config.specs.declared.config.Config.{Config}
use Rattle.smith_config.specs.Config.{default_config}
use Rattle.smith_config.specs.ExampleMembers.{final, giving_two, taking_a_number, bytes_array, plain_function}
use Rattle.smith_draw_definitions.specs.Definitions.{InitialiserScope, scope_over}
use Rattle.smith_module_rules_examples.specs.ExampleParts.{memory, table, number}

-- a function with results, an array, two functions without results, and one that is shared
abbrev pub several_types : List SubType
several_types = final giving_two ∷ final bytes_array ∷ final plain_function ∷ final taking_a_number ∷ shared_type plain_func ∷ []

-- at most two of each kind, with types that take few bytes
abbrev pub two_of_each : Config
two_of_each = record default_config {
  max_tags = 2;
  max_funcs = 2;
  max_tables = 2;
  max_memories = 2;
  max_globals = 2;
  threads_enabled = false;
  memory64_enabled = false;
  extended_const_enabled = false;
}

-- at least two of each kind
abbrev pub two_at_least_of_each : Config
two_at_least_of_each = record two_of_each {
  min_tags = 2;
  min_funcs = 2;
  min_tables = 2;
  min_memories = 2;
  min_globals = 2;
}

-- exactly one of each kind, without garbage collection, types and imports
abbrev pub one_of_each_kind : Config
one_of_each_kind = record two_of_each {
  max_types = 0;
  max_imports = 0;
  min_tags = 1;
  max_tags = 1;
  min_funcs = 1;
  max_funcs = 1;
  min_tables = 1;
  max_tables = 1;
  min_memories = 1;
  max_memories = 1;
  min_globals = 1;
  max_globals = 1;
  gc_enabled = false;
}

-- one type, and one imported function; no export, start function or segment
abbrev pub one_import_of_a_function : Config
one_import_of_a_function = record default_config {
  min_types = 1;
  max_types = 1;
  min_imports = 1;
  max_imports = 1;
  max_tags = 0;
  max_funcs = 1;
  max_exports = 0;
  max_element_segments = 0;
  max_data_segments = 0;
  allow_start_export = false;
  max_tables = 0;
  max_memories = 0;
  max_globals = 0;
  gc_enabled = false;
  compact_imports_enabled = false;
}

-- these imported globals, and nothing else
abbrev pub beside_globals : List GlobalType → InitialiserScope
beside_globals globals = scope_over [] [] 0 globals

-- a memory of at most three pages
abbrev pub up_to_three : MemoryType
up_to_three = memory 0 (Some 3)

-- nothing is imported
abbrev pub no_imports : EntitySpaces
no_imports = record { tags = []; funcs = []; tables = []; memories = []; globals = [] }

-- a tag, a function of a shared type, a table, a memory and a global
abbrev pub one_imported_of_each : EntitySpaces
one_imported_of_each = record {
  tags = 2 ∷ [];
  funcs = 4 ∷ [];
  tables = table funcref 5 None ∷ [];
  memories = memory 5 None ∷ [];
  globals = number ∷ [];
}
