-- Values of examples.
use Rattle.std.specs.Prelude.{None, []}
use Rattle.smith_binary_sections.specs.Modules.{Contents}

-- an empty module
abbrev pub empty_module : Contents
empty_module = record {
  types = [];
  imports = [];
  functions = [];
  tables = [];
  memories = [];
  tags = [];
  globals = [];
  exports = [];
  start = None;
  elems = [];
  bodies = [];
  datas = [];
}
