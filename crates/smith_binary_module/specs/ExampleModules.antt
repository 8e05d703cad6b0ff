-- Modules of examples.
use Rattle.std.specs.Prelude.{false, None, [], ◌∷◌}
use Rattle.smith_types.specs.Syntax.code.Code.{Code}
use Rattle.smith_types.specs.ExampleTypes.{final_type, plain_func, range}
use Rattle.smith_config.specs.Config.{default_config}
use Rattle.smith_module_rules.specs.Module.{ModuleParts}

-- a module with one function, of this body
abbrev pub one_function : Code → ModuleParts
one_function body = record {
  config = default_config;
  types = final_type plain_func ∷ [];
  groups = range 0 1 ∷ [];
  imports = [];
  num_imports = 0;
  tags = [];
  funcs = 0 ∷ [];
  tables = [];
  defined_tables = [];
  memories = [];
  globals = [];
  defined_globals = [];
  num_defined_tags = 0;
  num_defined_funcs = 1;
  num_defined_memories = 0;
  exports = [];
  start = None;
  elems = [];
  datas = [];
  code = body ∷ [];
  fuel_globals = [];
  encodes_types = false;
  encodes_imports = false;
  type_size = 0;
  interesting_values32 = [];
  interesting_values64 = [];
}
