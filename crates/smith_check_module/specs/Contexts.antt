-- The context of a module: the section Validation, Modules, of the WebAssembly Core Specification 3.0.
use Rattle.std.specs.Prelude.{ℕ, List, ◌++◌, length, map}
use Rattle.smith_check_module.specs.Common.{canonical_index, Context, EntitySpaces, Features, GlobalType, imported_spaces, Instr, SubType}
use Rattle.smith_check_module.specs.Common.{Syntax, TableType}
use Rattle.smith_types.specs.Groups.{space_of}
use Rattle.smith_check_types.specs.TypeSections.{canonical_groups}
use Rattle.smith_check_module.specs.CanonicalModules.{renamed_spaces}

-- the index spaces of a module in terms of its own type indices: imports first, then definitions
-- (Structure, Indices)
abbrev pub spaces_of : Syntax → EntitySpaces
spaces_of m =
    let imports = imported_spaces m.imports in
    record {
      tags = imports.tags ++ m.tags;
      funcs = imports.funcs ++ m.functions;
      tables = imports.tables ++ map (λ (table : TableType × List Instr). table.0) m.tables;
      memories = imports.memories ++ m.memories;
      globals = imports.globals ++ map (λ (global : GlobalType × List Instr). global.0) m.globals;
    }

-- the type space of a module, by canonical indices (Validation, Modules)
abbrev pub types_in : List ℕ → Syntax → List SubType
types_in indices m = (space_of (canonical_groups indices m.types)).types

-- the other index spaces of a module, by canonical indices (Validation, Modules)
abbrev pub spaces_in : List ℕ → Syntax → EntitySpaces
spaces_in indices m = renamed_spaces (canonical_index indices) (spaces_of m)

-- the context of a module's constant expressions, with no visible globals (Validation, Modules)
abbrev pub context_in : Features → List ℕ → Syntax → Context
context_in features indices m = record {
  features = features;
  types = types_in indices m;
  funcs = (spaces_in indices m).funcs;
  globals = (spaces_in indices m).globals;
  imported_funcs = length (imported_spaces m.imports).funcs;
  imported_globals = length (imported_spaces m.imports).globals;
  visible = 0;
}
