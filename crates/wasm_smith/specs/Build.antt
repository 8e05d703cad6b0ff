-- The module that the bytes give, step by step, and the bytes that each step leaves: the definition
-- for `exact` of `Module::new`. The properties of a module are stated separately and do not depend
-- on it.
use Rattle.std.specs.Prelude.{ℕ, ◌+◌, ◌-◌, Bool, true, ◌||◌, is_some, Option, Some, None, List, [], length, Result, Ok, if◌then◌else◌}
use Rattle.wasm_smith.specs.Common.{Config, Context, Definitions, EntitySpaces, Error, features_of, flattened, imported_spaces, ModuleParts}
use Rattle.wasm_smith.specs.Common.{Shape}
use Rattle.smith_draw_types.specs.RecGroups.{types_at}
use Rattle.smith_draw_imports.specs.Importing.{imports_at}
use Rattle.smith_bytes.specs.Steps.{◌>>=◌, section_flag_at, Returns, is_memory}
use Rattle.smith_draw_contents.specs.AllExports.{exports_at}
use Rattle.smith_module_rules.specs.ExportedItems.{exported_size}
use Rattle.smith_draw_contents.specs.declared.exports_so_far.Exports.{Exports}
use Rattle.wasm_smith.specs.FirstParts.{ModuleSoFar, first_parts_at, module_so_far, size_of_imports}
use Rattle.smith_draw_definitions.specs.Definitions.{definitions_at}
use Rattle.wasm_smith.specs.DrawnContents.{after_exports_at, in_full}
use Rattle.smith_module_rules.specs.Refusals.{MayGive}
use Rattle.smith_draw_definitions.specs.RequiredExports.{Required, required_at, then_with}
use Rattle.wasm_smith.specs.declared.build.contents.Contents.{Contents}
use Rattle.wasm_smith.specs.declared.build.parts_so_far.PartsSoFar.{PartsSoFar}

-- the context of these functions, `imported` of them imported, without types and globals
abbrev pub functions_over : Config → List ℕ → ℕ → Context
functions_over config funcs imported = record {
  features = features_of config;
  types = [];
  funcs = funcs;
  globals = [];
  imported_funcs = imported;
  imported_globals = 0;
  visible = 0;
}

-- the context of the functions so far
abbrev pub functions_so_far : Config → ModuleSoFar → Context
functions_so_far config so_far = functions_over config so_far.spaces.funcs (length so_far.spaces.funcs - so_far.defined.num_funcs)

-- the state after types are drawn
abbrev pub with_types_at : Config → ModuleSoFar → List ℕ → ModuleSoFar × List ℕ
with_types_at config so_far bytes = let types = types_at config (functions_so_far config so_far) so_far.types bytes in
    (record so_far { types = types.0 }, types.1)

-- the state after imports are drawn, unless a shape fixes them; with `distinct` their names are
-- distinct
unfoldable pub imported_at : Bool → Config → ModuleSoFar → List ℕ → Result (ModuleSoFar × List ℕ) Error
imported_at distinct config so_far bytes =
    if is_some config.available_imports || is_some config.module_shape then Ok (so_far, bytes)
    else then_with (λ groups. record so_far { groups = groups; spaces = imported_spaces (flattened groups) })
    (in_full (imports_at config so_far.types.types distinct bytes))

-- the state after entities are defined
unfoldable pub defined_at : Config → ModuleSoFar → List ℕ → Result (ModuleSoFar × List ℕ) Error
defined_at config so_far bytes =
    then_with (λ (made : EntitySpaces × Definitions). record so_far { spaces = made.0; defined = made.1 })
    (definitions_at config so_far.types.types so_far.spaces so_far.defined bytes)

-- what the imports so far add to the type size
abbrev pub size_so_far : Config → ModuleSoFar → ℕ
size_so_far config so_far = size_of_imports config so_far.types.types (flattened so_far.groups)

-- the state after exports are made: with a module shape they exist already; with a shape for
-- exports, each refers to an entity that is defined for it; else they are drawn
abbrev pub exported_for : Config → Option Shape → Option Shape → ModuleSoFar → List ℕ → Result (ModuleSoFar × List ℕ) Error
exported_for config (Some shape) exports so_far bytes = Ok (so_far, bytes)
exported_for config None (Some shape) so_far bytes =
    then_with (λ (made : Required). record so_far {
      types = made.types;
      spaces = made.spaces;
      defined = made.defined;
      exports = made.exports;
    }) (required_at true config shape so_far.types so_far.spaces so_far.defined bytes)
exported_for config None None so_far bytes = then_with (λ exports. record so_far { exports = exports })
    (in_full (exports_at config so_far.types.types so_far.spaces (size_so_far config so_far) bytes))

unfoldable pub exported_at : Config → ModuleSoFar → List ℕ → Result (ModuleSoFar × List ℕ) Error
exported_at config so_far bytes = exported_for config config.module_shape config.exports so_far bytes

-- the exports and the type size of a module; exports that a shape fixes add nothing to the type
-- size
abbrev pub exports_of : Config → ModuleSoFar → Exports
exports_of config so_far = record {
  exports = so_far.exports;
  type_size = size_so_far config so_far + (if is_some config.module_shape || is_some config.exports then 0 else exported_size
      so_far.types.types so_far.spaces so_far.exports);
}

-- the module of a state, with the contents drawn after it and the flag of the import section; its
-- configuration has no available imports, and its interesting values are empty
abbrev pub module_of : Config → ModuleSoFar → Contents → Bool → ModuleParts
module_of config so_far contents encodes_imports = record {
  config = record config { available_imports = None };
  types = so_far.types.types;
  groups = so_far.types.groups;
  imports = so_far.groups;
  num_imports = length (flattened so_far.groups);
  tags = so_far.spaces.tags;
  funcs = so_far.spaces.funcs;
  tables = so_far.spaces.tables;
  defined_tables = so_far.defined.tables;
  memories = so_far.spaces.memories;
  globals = so_far.spaces.globals;
  defined_globals = so_far.defined.globals;
  num_defined_tags = so_far.defined.num_tags;
  num_defined_funcs = so_far.defined.num_funcs;
  num_defined_memories = so_far.defined.num_memories;
  exports = contents.exports;
  start = contents.start;
  elems = contents.segments.elems;
  datas = contents.segments.data_segments;
  code = contents.code;
  fuel_globals = [];
  encodes_types = contents.encodes_types;
  encodes_imports = encodes_imports;
  type_size = contents.type_size;
  interesting_values32 = [];
  interesting_values64 = [];
}

-- the first parts of a module, and the types after them
unfoldable pub first_parts_typed_at : Config → List ℕ → Result (ModuleSoFar × List ℕ) Error
first_parts_typed_at config bytes = do
  so_far ← first_parts_at config bytes
  Ok (with_types_at config so_far.0 so_far.1)

-- the module that the bytes give, and the bytes left
unfoldable pub module_at : Bool → Config → List ℕ → Result (ModuleParts × List ℕ) Error
module_at distinct config bytes = do
  typed ← first_parts_typed_at config bytes
  imported ← imported_at distinct config typed.0 typed.1
  let import_flag = section_flag_at (length imported.0.groups) imported.1
  defined ← defined_at config imported.0 import_flag.1
  exported ← exported_at config defined.0 defined.1
  let whole = exported.0
  contents ← after_exports_at config whole.types.types (imported_spaces (flattened whole.groups)) whole.spaces (exports_of config whole)
      exported.1
  Ok (module_of config whole contents.0 import_flag.0, contents.1)

-- the parts that were drawn, as a module
abbrev pub parts_of : Config → PartsSoFar → ModuleParts
parts_of config drawn =
    record (module_of config (module_so_far drawn) drawn.contents drawn.encodes_imports) {
      num_imports = drawn.imported.count;
      interesting_values32 = drawn.interesting_values32;
      interesting_values64 = drawn.interesting_values64;
    }

-- a module without its interesting values, which its tables and memories determine
abbrev pub as_drawn : ModuleParts → ModuleParts
as_drawn m = record m { interesting_values32 = []; interesting_values64 = [] }

-- if a module can be drawn for the configuration, the result is the module or the error that the
-- bytes give, with the bytes left, or lack of memory
pub record IsGiven (distinct : Bool) (config : Config) (bytes : List ℕ) (answer : Result ModuleParts Error) (left : List ℕ) : Type 0 where
  pub exact : MayGive config → Returns is_memory (λ m. (as_drawn m, left)) answer (module_at distinct config bytes)
