-- A module in the abstract syntax: the section Structure, Modules, of the WebAssembly Core
-- Specification 3.0.
use Rattle.std.specs.Prelude.{ℕ, ◌-◌, List, map, length, drop}
use Rattle.std.specs.List.{zip}
use Rattle.smith_types.specs.Imports.{flattened}
use Rattle.smith_module_rules.specs.Module.{ModuleParts}
use Rattle.smith_binary_sections.specs.Types.{group_at}
use Rattle.smith_binary_sections.specs.Definitions.{initialised_table, initialised_global}
use Rattle.smith_binary_sections.specs.Elements.{elem_of}
use Rattle.smith_binary_sections.specs.Codes.{body_of}
use Rattle.smith_binary_sections.specs.Data.{data_of}
use Rattle.smith_binary_sections.specs.Modules.{Contents}

-- the last `count` items of an index space: definitions come after imports (Structure, Indices)
abbrev pub defined : {A : Type 0} → ℕ → List A → List A
defined count space = drop (length space - count) space

-- a module in the abstract syntax (Structure, Modules)
abbrev pub contents_of : ModuleParts → Contents
contents_of m = record {
  types = map (group_at m.types) m.groups;
  imports = flattened m.imports;
  functions = defined m.num_defined_funcs m.funcs;
  tables = map initialised_table (zip (defined (length m.defined_tables) m.tables) m.defined_tables);
  memories = defined m.num_defined_memories m.memories;
  tags = defined m.num_defined_tags m.tags;
  globals = map initialised_global (zip (defined (length m.defined_globals) m.globals) m.defined_globals);
  exports = m.exports;
  start = m.start;
  elems = map elem_of m.elems;
  bodies = map (body_of m.fuel_globals) m.code;
  datas = map data_of m.datas;
}
