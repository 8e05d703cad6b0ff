-- Modules of the examples.
use Rattle.std.specs.Prelude.{List, [], ◌∷◌, Some, None, pos}
use Rattle.smith_types.specs.Syntax.entity_type.ExportKind.TheVariants as kind
use Rattle.smith_check_module.specs.Common.{Instr, Syntax}
use Rattle.smith_instr.specs.declared.instr.Instr.TheVariants as instr

-- an empty module
abbrev pub nothing : Syntax
nothing = record {
  types = [];
  further_supertypes = [];
  imports = [];
  functions = [];
  tables = [];
  memories = [];
  tags = [];
  globals = [];
  exports = [];
  start = None;
  elems = [];
  bodies = [];
  datas = [];
  customs = [];
}

-- modules without a function: one exports a function, one has a start function
abbrev pub exports_missing : Syntax
exports_missing = record nothing { exports = ([], kind.Func, 0) ∷ [] }

abbrev pub starts_missing : Syntax
starts_missing = record nothing { start = Some 0 }

-- the constant 1, and the value of the first global
abbrev pub one : List Instr
one = instr.I32Const (pos 1) ∷ []

abbrev pub first_global : List Instr
first_global = instr.GlobalGet 0 ∷ []
