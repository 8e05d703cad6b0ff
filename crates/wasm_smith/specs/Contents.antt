-- The types, imports and definitions over which exports, a start function, segments and bodies are
-- drawn. Rules of this project.
use Rattle.std.specs.Prelude.{◌≡◌, ℕ, ◌*◌, ◌≤◌, List, length, All}
use Rattle.wasm_smith.specs.Common.{Config, Context, EntitySpaces, Error, features_of, HasNoShapes, TableType}
use Rattle.smith_bytes.specs.declared.error.Error.TheVariants as errors
use Rattle.smith_types.specs.Entities.{AreEntitiesValid}
use Rattle.smith_types.specs.GroupedTypes.{GroupedTypes}
use Rattle.smith_types.specs.ValidTypes.{AreTypesValid}
use Rattle.smith_config.specs.Faults.{Passes}
use Rattle.smith_config.specs.Sanitized.{IsSanitized}
use Rattle.smith_draw_types.specs.FuncSizes.{IsSmall}
use Rattle.smith_draw_types.specs.declared.spaces.Spaces.{Spaces}
use Rattle.smith_draw_contents.specs.DrawnElements.{MayLackItem}
use Rattle.smith_draw_contents.specs.Exported.{IsIndexed, HasSizeIn32Bits}
use Rattle.smith_module_rules.specs.Refusals.{MayRefuse}

-- Contents may be drawn over these index spaces, where imports add `imports_size` to the type size.
-- All parts are valid, sizes and indices have 32 bits, and the minimums of tables, memories and
-- globals are met. Without shapes, function types are small, and an import adds at most 42.
pub record MayHoldContents (config : Config) (space : GroupedTypes) (spaces : EntitySpaces) (imports_size : ℕ) : Type 0 where
  pub passes : Passes config
  pub sanitized : IsSanitized config
  pub types : AreTypesValid (features_of config) space
  pub sized : All HasSizeIn32Bits space.types
  pub small : HasNoShapes config → All IsSmall space.types
  pub entities : AreEntitiesValid (features_of config) space.types spaces
  pub few : IsIndexed spaces
  pub tables : config.min_tables ≤ length spaces.tables
  pub memories : config.min_memories ≤ length spaces.memories
  pub globals : config.min_globals ≤ length spaces.globals
  pub within : imports_size ≤ config.max_type_size
  pub small_imports : HasNoShapes config → imports_size ≤ 42 * config.max_imports

-- an error of drawing contents: an error of the module, or no candidate for an item of a segment
abbrev pub MayRefuseContents : Config → Context → List TableType → Error → Type 0
MayRefuseContents config context tables errors.EmptyChoose = MayLackItem config context tables
MayRefuseContents config context tables e = MayRefuse config e

-- `over` has the types and entities that a segment may refer to, with these numbers of imported
-- functions and globals
pub record AreSpacesOver (space : GroupedTypes) (spaces : EntitySpaces) (num_funcs num_globals : ℕ) (over : Spaces) : Type 0 where
  pub types : over.types.now ≡ space
  pub funcs : over.entities.funcs.now ≡ spaces.funcs
  pub tables : over.entities.tables.now ≡ spaces.tables
  pub memories : over.entities.memories.now ≡ spaces.memories
  pub globals : over.entities.globals.now ≡ spaces.globals
  pub imported_funcs : over.entities.imported_funcs ≡ num_funcs
  pub imported_globals : over.entities.imported_globals ≡ num_globals
