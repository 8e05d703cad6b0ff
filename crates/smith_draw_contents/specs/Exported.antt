-- Preconditions, invariants and errors of the step of exports. Rules of this project.
use Rattle.std.specs.Prelude.{◌≡◌, true, false, ℕ, ◌+◌, ◌*◌, ◌^◌, ◌<◌, ◌≤◌, ◌⊎◌, List, length, All}
use Rattle.smith_draw_contents.specs.Common.{Config, EntitySpaces, Error, Export, exported_size, SubType, Unmet}
use Rattle.smith_bytes.specs.declared.error.Error.TheVariants as errors
use Rattle.smith_bytes.specs.declared.error.Why.TheVariants.{TypeSize}
use Rattle.smith_bytes.specs.declared.error.Count.TheVariants as counts
use Rattle.smith_types.specs.Entities.{IsFuncTypeIndex}
use Rattle.smith_types.specs.Exports.{AreExportsValid}
use Rattle.smith_types.specs.Sizes.{size_in, value_count}
use Rattle.smith_types.specs.Syntax.entity_type.EntityType.TheVariants as entity
use Rattle.smith_types.specs.Syntax.entity_type.ExportKind.{ExportKind}
use Rattle.smith_config.specs.InUse.{FixesExports, HasNoShapes}
use Rattle.smith_draw_types.specs.FuncSizes.{IsSmall}
use Rattle.smith_module_rules.specs.ExportedItems.{IsStanding, item_size}
use Rattle.smith_module_rules.specs.Refusals.{MayHaveNoExports}

-- the indices of all items of index spaces have 32 bits
pub record IsIndexed (spaces : EntitySpaces) : Type 0 where
  pub funcs : length spaces.funcs < 2 ^ 32
  pub tables : length spaces.tables < 2 ^ 32
  pub memories : length spaces.memories < 2 ^ 32
  pub globals : length spaces.globals < 2 ^ 32
  pub tags : length spaces.tags < 2 ^ 32

-- a type whose functions have a size that, plus 1, has 32 bits
abbrev pub HasSizeIn32Bits : SubType → Type 0
HasSizeIn32Bits t = value_count t.composite_type.inner + 2 < 2 ^ 32

-- items of index spaces may be exported over these types: the sizes of functions, and indices, have
-- 32 bits
pub record MayExport (types : List SubType) (spaces : EntitySpaces) : Type 0 where
  pub sized : All HasSizeIn32Bits types
  pub funcs : All (IsFuncTypeIndex types) spaces.funcs
  pub few : IsIndexed spaces

-- the size of a function, plus 1, is at most `most`
abbrev pub IsFuncWithin : List SubType → ℕ → ℕ → Type 0
IsFuncWithin types most func = size_in types (entity.Func func) + 1 ≤ most

-- items may be exported, and the size of each function, plus 1, is at most `most`
pub record MayOffer (types : List SubType) (spaces : EntitySpaces) (most : ℕ) : Type 0 where
  pub items : MayExport types spaces
  pub within : All (IsFuncWithin types most) spaces.funcs

-- exports may be drawn, for the amount that the imports add to the type size: the minimums of
-- tables, memories and globals are met, and without shapes function types are small, and an import
-- adds at most 42
pub record MayExportFreely (config : Config) (types : List SubType) (spaces : EntitySpaces) (imports : ℕ) : Type 0 where
  pub items : MayExport types spaces
  pub ordered : config.min_exports ≤ config.max_exports
  pub within : imports ≤ config.max_type_size
  pub small : HasNoShapes config → All IsSmall types
  pub small_imports : HasNoShapes config → imports ≤ 42 * config.max_imports
  pub tables : config.min_tables ≤ length spaces.tables
  pub memories : config.min_memories ≤ length spaces.memories
  pub globals : config.min_globals ≤ length spaces.globals

-- an item may be exported with `left` of the type size left: it exists, and its size plus 1 is
-- below `left`
pub record IsCandidate (types : List SubType) (spaces : EntitySpaces) (left : ℕ) (of_kind : ExportKind) (index : ℕ) : Type 0 where
  pub stands : IsStanding spaces of_kind index
  pub fits : item_size types spaces of_kind index + 1 < left

-- exports are valid; the type size of imports and exports is correct and within its bound
pub record AreExportsFit (config : Config) (types : List SubType) (spaces : EntitySpaces) (imports : ℕ) (exports : List Export)
    (size : ℕ) : Type 0 where
  pub valid : AreExportsValid spaces exports
  pub type_size : size ≡ imports + exported_size types spaces exports
  pub within : size ≤ config.max_type_size

-- freely drawn exports fit, and are no more than the maximum
pub record AreExported (config : Config) (types : List SubType) (spaces : EntitySpaces) (imports : ℕ) (exports : List Export)
    (size : ℕ) : Type 0 where
  pub fit : AreExportsFit config types spaces imports exports size
  pub most : length exports ≤ config.max_exports

-- without shapes there may be fewer exports than the minimum: they may exceed the type size, or
-- there may be no item
abbrev pub MayRunOut : Config → Type 0
MayRunOut config = (config.max_type_size ≤ 42 * (config.max_imports + config.min_exports)) ⊎ MayHaveNoExports config

-- the errors of freely drawn exports: lack of memory, or a minimum above zero that may not be met
abbrev pub MayRefuseFree : Config → Error → Type 0
MayRefuseFree config e = (e ≡ errors.Memory) ⊎ ((e ≡ errors.IncorrectFormat (Unmet counts.Exports)) × (0 < config.min_exports)
    × (HasNoShapes config → MayRunOut config))

-- the errors of exporting every item: lack of memory, or exports that exceed the type size
abbrev pub MayRefuseAll : Error → Type 0
MayRefuseAll e = (e ≡ errors.Memory) ⊎ (e ≡ errors.IncorrectFormat TypeSize)

-- exports may be drawn, where imports add this amount to the type size, and no shape fixes them
pub record MayDrawExports (config : Config) (types : List SubType) (spaces : EntitySpaces) (imports : ℕ) : Type 0 where
  pub not_fixed : FixesExports config → ⊥
  pub items : MayExport types spaces
  pub within : imports ≤ config.max_type_size
  pub freely : config.export_everything ≡ false → MayExportFreely config types spaces imports

-- the errors of the step of exports: those of exporting every item if everything is exported, else
-- those of freely drawn exports
abbrev pub MayRefuseExports : Config → Error → Type 0
MayRefuseExports config e = ((config.export_everything ≡ true) × MayRefuseAll e)
    ⊎ ((config.export_everything ≡ false) × MayRefuseFree config e)
