-- Conditions for refusing a module, and for never refusing it. Rules of this project.
use Rattle.std.specs.Prelude.{◌≡◌, ◌*◌, ◌+◌, ◌<◌, ◌≤◌, ◌⊎◌, false, IsTrue, IfSome, IsSome, IsSomeAnd, Option}
use Rattle.smith_module_rules.specs.Common.{Any, Config, Count, FixesExports, Shape, shapes_of}
use Rattle.smith_bytes.specs.declared.error.Error.{Error}
use Rattle.smith_bytes.specs.declared.error.Error.TheVariants as errors
use Rattle.smith_bytes.specs.declared.error.Why.{Why}
use Rattle.smith_bytes.specs.declared.error.Why.TheVariants as reasons
use Rattle.smith_bytes.specs.declared.error.Count.TheVariants as counts
use Rattle.smith_bytes.specs.declared.error.Which.{Which}
use Rattle.smith_bytes.specs.declared.error.Which.TheVariants as which
use Rattle.smith_config.specs.Faults.{BoundsApply, IsFirstFault, Passes, minimum_of}
use Rattle.smith_config.specs.Shapes.{IsShapeValid, shape_values}
use Rattle.smith_config.specs.ShapeFaults.{HasShapeFault}
use Rattle.smith_config.specs.Granted.{IsNonNullable}
use Rattle.smith_config.specs.Minimums.{HasNoMinimums}
use Rattle.smith_module_rules.specs.Bounds.{where_given, items_of_exports, items_of_module_shape}

-- a module may have fewer imports than the minimum: their sizes may exceed the type size, or the
-- maximum of some kind is lower than the minimum
abbrev pub MayLackImports : Config → Type 0
MayLackImports config =
    (config.max_type_size < 42 * config.min_imports)
    ⊎ ((config.max_tags < config.min_imports)
    ⊎ ((config.max_funcs < config.min_imports)
    ⊎ ((config.max_globals < config.min_imports)
    ⊎ ((config.max_memories < config.min_imports) ⊎ (config.max_tables < config.min_imports)))))

-- no table, memory or global is required, so that there may be nothing to export
pub record MayHaveNoExports (config : Config) : Type 0 where
  pub tables : config.min_tables ≡ 0
  pub memories : config.min_memories ≡ 0
  pub globals : config.min_globals ≡ 0

-- the shape for a use, if it is given and used
abbrev pub shape_for : Config → Which → Option Shape
shape_for config which.AvailableImports = (shapes_of config).available_imports
shape_for config which.Exports = (shapes_of config).exports
shape_for config which.ModuleShape = (shapes_of config).module_shape

-- some shape is in use
abbrev pub HasShape : Config → Type 0
HasShape config = (for_use : Which) × IsSome (shape_for config for_use)

-- a shape in use has a non-nullable reference
abbrev pub HoldsNonNullable : Config → Type 0
HoldsNonNullable config = (for_use : Which) × IsSomeAnd (shape_for config for_use) (λ shape. Any IsNonNullable (shape_values shape))

-- a module may have fewer exports than the minimum: there is a shape, their sizes may exceed the
-- type size, or there may be nothing to export
abbrev pub MayLackExports : Config → Type 0
MayLackExports config =
    HasShape config ⊎ ((config.max_type_size ≤ 42 * (config.max_imports + config.min_exports)) ⊎ MayHaveNoExports config)

-- A minimum above zero may not be met. The minimums of types, tables, memories and globals are
-- always met, those of segments with bulk memory, and that of functions without garbage collection
-- if types are required.
abbrev pub MayBeShort : Config → Count → Type 0
MayBeShort config counts.Types = ⊥
MayBeShort config counts.Tables = ⊥
MayBeShort config counts.Memories = ⊥
MayBeShort config counts.Globals = ⊥
MayBeShort config counts.ElementSegments = config.bulk_memory_enabled ≡ false
MayBeShort config counts.DataSegments = config.bulk_memory_enabled ≡ false
MayBeShort config counts.Imports = MayLackImports config
MayBeShort config counts.Funcs = config.gc_enabled ≡ false → config.min_types ≡ 0
MayBeShort config counts.Exports = MayLackExports config
MayBeShort config counts.Tags = Unit {0}
MayBeShort config counts.Elements = Unit {0}

-- the minimum of a kind applies, is above zero, and may not be met
abbrev pub MayBeUnmet : Config → Count → Type 0
MayBeUnmet config count = BoundsApply config count × ((0 < minimum_of config count) × MayBeShort config count)

-- a shape for exports or a module shape adds a memory, or a table
abbrev pub Brings : Config → Count → Type 0
Brings config count =
    (0 < where_given (items_of_exports count) (shapes_of config).exports)
    ⊎ (0 < where_given (items_of_module_shape count) (shapes_of config).module_shape)

-- the reasons for which a module may not fit its configuration
abbrev pub MayBeOutOfShape : Config → Why → Type 0
MayBeOutOfShape config (reasons.Unmet count) = MayBeUnmet config count
MayBeOutOfShape config reasons.TypeSize = IsTrue config.export_everything × (FixesExports config → ⊥)
MayBeOutOfShape config reasons.SeveralMemories = Brings config counts.Memories × (config.max_memories ≤ 1)
MayBeOutOfShape config reasons.SeveralTables = Brings config counts.Tables × (config.reference_types_enabled ≡ false)
MayBeOutOfShape config reasons.Loop = ⊥
MayBeOutOfShape config reasons.RawBody = ⊥

-- the condition of each error, for a sanitised configuration; a failed allocation, which no
-- definition expresses, is the condition of `Memory`
abbrev pub MayRefuse : Config → Error → Type 0
MayRefuse config errors.EmptyChoose = HoldsNonNullable config
MayRefuse config errors.NotEnoughData = ⊥
MayRefuse config (errors.IncorrectFormat why) = MayBeOutOfShape config why
MayRefuse config (errors.Config fault) = IsFirstFault config fault
MayRefuse config (errors.Shape for_use fault) = IsSomeAnd (shape_for config for_use) (λ shape. HasShapeFault for_use config shape fault)
MayRefuse config errors.Memory = Unit {0}

-- each shape in use passes its check
abbrev pub AreShapesValid : Config → Type 0
AreShapesValid config = (for_use : Which) → IfSome (shape_for config for_use) (λ shape. IsShapeValid for_use config shape)

-- a module is possible: the configuration and its shapes pass their checks
pub record MayGive (config : Config) : Type 0 where
  pub passes : Passes config
  pub shapes_valid : AreShapesValid config

-- lack of memory is the only error: a module is possible, no minimum is set, not everything is
-- exported, shapes have only nullable references, and with a shape several tables and memories are
-- enabled
pub record AsksNothingImpossible (config : Config) : Type 0 where
  pub may_give : MayGive config
  pub no_minimums : HasNoMinimums config
  pub not_everything : config.export_everything ≡ false
  pub nullable : HoldsNonNullable config → ⊥
  pub several : HasShape config → IsTrue config.reference_types_enabled × (2 ≤ config.max_memories)
