-- Preconditions, invariants and errors of the exports that a shape fixes. Rules of this project.
use Rattle.std.specs.Prelude.{◌≡◌, false, ℕ, ◌+◌, ◌<◌, ◌≤◌, ◌⊎◌, Bool, true, Option, Some, None, List, length, slice_get, All}
use Rattle.std.specs.List.{Any, AllZip, Contains}
use Rattle.smith_bytes.specs.declared.error.Count.{Count}
use Rattle.smith_bytes.specs.declared.error.Count.TheVariants as counts
use Rattle.smith_draw_definitions.specs.Common.{Config, ConstInstr, Context, EntitySpaces, Error, features_of, GroupedTypes}
use Rattle.smith_draw_definitions.specs.Common.{IsTableInitialised, SubType}
use Rattle.smith_bytes.specs.declared.error.Error.TheVariants as errors
use Rattle.smith_bytes.specs.declared.error.Which.{Which}
use Rattle.smith_bytes.specs.declared.error.Which.TheVariants as which
use Rattle.smith_bytes.specs.declared.error.Why.TheVariants.{SeveralMemories, SeveralTables}
use Rattle.smith_types.specs.Entities.{AreEntitiesValid}
use Rattle.smith_types.specs.Expressions.{IsConstExpr}
use Rattle.smith_types.specs.Grown.{Extends, AreSpacesGrown}
use Rattle.smith_types.specs.EntitySpaces.{with_entity}
use Rattle.smith_types.specs.ValidTypes.{AreTypesValid}
use Rattle.smith_types.specs.Syntax.value_type.ValType.TheVariants.{Ref}
use Rattle.smith_types.specs.Syntax.entity_type.EntityType.{EntityType}
use Rattle.smith_types.specs.Syntax.entity_type.EntityType.TheVariants as entity
use Rattle.smith_config.specs.declared.shape.Shape.{Shape}
use Rattle.smith_config.specs.Sanitized.{IsSanitized}
use Rattle.smith_config.specs.Shapes.{most_listed, shape_types, shape_spaces, shape_values, IsShapeValid}
use Rattle.smith_config.specs.Granted.{IsNonNullable}
use Rattle.smith_draw_types.specs.HeldFields.{HoldsUngroundedField}
use Rattle.smith_draw_types.specs.FuncSizes.{HasFewValues}
use Rattle.smith_module_rules.specs.Bounds.{counts_as, items_of_exports}
use Rattle.smith_module_rules.specs.ShapeImports.{count_in}
use Rattle.smith_draw_definitions.specs.Defined.{AreWithin, HasRoom, StandsAfter, drawn_beside}
use Rattle.smith_types.specs.Exports.{entity_kind}
use Rattle.smith_draw_definitions.specs.RequiredExports.{several, scope_beside, with_table, with_global}
use Rattle.smith_module_rules.specs.ExportedItems.{Export}
use Rattle.smith_module_rules.specs.ShapesKept.{IsSameExport, IsSameType}
use Rattle.smith_draw_definitions.specs.declared.definitions.Definitions.{Definitions}

-- `more` entities may be defined after the existing ones
pub record MayDefineMore (config : Config) (space : GroupedTypes) (spaces : EntitySpaces) (defined : Definitions) (more : ℕ) : Type 0 where
  pub sanitized : IsSanitized config
  pub valid : AreTypesValid (features_of config) space
  pub entities : AreEntitiesValid (features_of config) space.types spaces
  pub within : AreWithin spaces defined
  pub room : HasRoom spaces more

-- no type has a declared supertype
abbrev pub HasNoSupertypes : List SubType → Type 0
HasNoSupertypes types = (index : ℕ) (t : SubType) → slice_get types index ≡ Some t → t.supertype ≡ None

-- the entity of an export of a shape is over existing types, or has an equal type of its own
abbrev pub IsKeptType : Bool → List SubType → List SubType → EntityType → EntityType → Type 0
IsKeptType true ours theirs mine yours = IsSameType ours theirs mine yours
IsKeptType false ours theirs mine yours = mine ≡ yours

-- the definitions with one more entity; a table and a global have an initialiser
abbrev pub IsInitialised : Config → List SubType → EntitySpaces → (old new : Definitions) → EntityType → Type 0
IsInitialised config types spaces old new (entity.Tag index) = new ≡ record old { num_tags = old.num_tags + 1 }
IsInitialised config types spaces old new (entity.Func index) = new ≡ record old { num_funcs = old.num_funcs + 1 }
IsInitialised config types spaces old new (entity.Memory memory) = new ≡ record old { num_memories = old.num_memories + 1 }
IsInitialised config types spaces old new (entity.Table table) =
    (initial : Option (List ConstInstr)) × (new ≡ with_table old initial) × IsTableInitialised (scope_beside config types spaces old false)
    table initial
IsInitialised config types spaces old new (entity.Global global) =
    (initial : List ConstInstr) × (new ≡ with_global old (length spaces.globals) initial)
    × IsConstExpr (scope_beside config types spaces old true) global.val_type initial

-- an entity is defined after the existing ones
pub record IsDefinedMore (config : Config) (types : List SubType) (spaces : EntitySpaces) (defined : Definitions)
    (more_spaces : EntitySpaces) (more : Definitions) (added : EntityType) : Type 0 where
  pub spaces_are : more_spaces ≡ with_entity spaces added
  pub initialised : IsInitialised config types spaces defined more added
  pub alone : several config spaces added ≡ None

-- a table or a global has a non-nullable reference type
abbrev pub IsNeverNull : EntityType → Type 0
IsNeverNull (entity.Table table) = IsNonNullable (Ref table.element_type)
IsNeverNull (entity.Global global) = IsNonNullable global.val_type
IsNeverNull _ = ⊥

-- the errors of an entity's initialiser: lack of memory, or no candidate
abbrev pub MayRefuseInitial : Config → Context → EntityType → Error → Type 0
MayRefuseInitial config context added e = (e ≡ errors.Memory)
    ⊎ ((e ≡ errors.EmptyChoose) × (IsNeverNull added ⊎ HoldsUngroundedField config context))

-- the errors of an entity: those of its initialiser, and a second memory or table without its
-- feature
abbrev pub MayRefuseEntity : Config → Context → EntityType → Error → Type 0
MayRefuseEntity config context added (errors.IncorrectFormat SeveralMemories) = (counts_as counts.Memories (entity_kind added) ≡ 1)
    × (config.max_memories ≤ 1)
MayRefuseEntity config context added (errors.IncorrectFormat SeveralTables) = (counts_as counts.Tables (entity_kind added) ≡ 1)
    × (config.reference_types_enabled ≡ false)
MayRefuseEntity config context added e = MayRefuseInitial config context added e

-- the use of the shape, by whether entities have their own types
abbrev pub use_of : Bool → Which
use_of true = which.Exports
use_of false = which.ModuleShape

-- the exports of a shape may be made: it passes its check, and without own types the module begins
-- with its types
pub record MayRequire (own_types : Bool) (config : Config) (shape : Shape) (space : GroupedTypes) : Type 0 where
  pub valid : IsShapeValid (use_of own_types) config shape
  pub present : own_types ≡ false → Extends (shape_types shape) space.types

-- added types are the shape's
abbrev pub AddsTypesOf : Shape → List SubType → List SubType → Type 0
AddsTypesOf shape old new = All (λ t. Contains old t ⊎ Contains (shape_types shape) t) new

-- added tables, memories and globals have types from the shape
pub record AddsLimitsOf (shape : Shape) (old new : EntitySpaces) : Type 0 where
  pub tables : All (λ table. Contains old.tables table ⊎ Contains (shape_spaces shape).tables table) new.tables
  pub memories : All (λ memory. Contains old.memories memory ⊎ Contains (shape_spaces shape).memories memory) new.memories
  pub globals : All (λ global. Contains old.globals global ⊎ Contains (shape_spaces shape).globals global) new.globals

-- the properties that an export of a shape, and the definition for it, preserve
pub record IsRequiredMore (own_types : Bool) (config : Config) (shape : Shape) (old_types : GroupedTypes) (old : EntitySpaces)
    (old_defined : Definitions) (types : GroupedTypes) (spaces : EntitySpaces) (defined : Definitions) (one made : Export) : Type 0 where
  pub same : IsSameExport (IsKeptType own_types types.types (shape_types shape)) spaces (shape_spaces shape) made one
  pub types_grown : Extends old_types.types types.types
  pub groups_grown : Extends old_types.groups types.groups
  pub types_most : length types.types ≤ length old_types.types + 1
  pub spaces_grown : AreSpacesGrown old spaces
  pub counted : (count : Count) → (count ≡ counts.Types → ⊥) → count_in spaces count ≡ count_in old count + counts_as count one.1
  pub types_counted : length types.types ≤ length old_types.types + counts_as counts.Types one.1
  pub limits : AddsLimitsOf shape old spaces
  pub unchanged : own_types ≡ false → types ≡ old_types
  pub lacking : HoldsUngroundedField config (drawn_beside config types.types spaces defined)
      → HoldsUngroundedField config (drawn_beside config old_types.types old old_defined)
  pub types_of : AddsTypesOf shape old_types.types types.types
  pub few_values : All (HasFewValues most_listed) old_types.types → All (HasFewValues most_listed) types.types
  pub may : (more : ℕ) → MayDefineMore config old_types old old_defined (more + 1) → MayDefineMore config types spaces defined more
  pub stands : (imported : EntitySpaces) → StandsAfter config imported old_types old old_defined
      → StandsAfter config imported types spaces defined

-- the exports of a shape are made: they are the same in order, valid, and refer to entities defined
-- after others
pub record AreRequired (own_types : Bool) (config : Config) (shape : Shape) (old_types : GroupedTypes) (old : EntitySpaces)
    (old_defined : Definitions) (types : GroupedTypes) (spaces : EntitySpaces) (defined : Definitions) (exports : List Export)
    : Type 0 where
  pub same : AllZip (IsSameExport (IsKeptType own_types types.types (shape_types shape)) spaces (shape_spaces shape)) exports
      shape.exports
  pub types_grown : Extends old_types.types types.types
  pub groups_grown : Extends old_types.groups types.groups
  pub spaces_grown : AreSpacesGrown old spaces
  pub counted : (count : Count) → (count ≡ counts.Types → ⊥) → count_in spaces count ≡ count_in old count + items_of_exports count shape
  pub types_counted : length types.types ≤ length old_types.types + items_of_exports counts.Types shape
  pub limits : AddsLimitsOf shape old spaces
  pub unchanged : own_types ≡ false → types ≡ old_types
  pub lacking : HoldsUngroundedField config (drawn_beside config types.types spaces defined)
      → HoldsUngroundedField config (drawn_beside config old_types.types old old_defined)
  pub types_of : AddsTypesOf shape old_types.types types.types
  pub few_values : All (HasFewValues most_listed) old_types.types → All (HasFewValues most_listed) types.types
  pub stands : (imported : EntitySpaces) → StandsAfter config imported old_types old old_defined
      → StandsAfter config imported types spaces defined

-- a shape has a non-nullable reference, or a type has one that is not granted
abbrev pub MayLackIn : Config → Context → Shape → Type 0
MayLackIn config context shape = Any IsNonNullable (shape_values shape) ⊎ HoldsUngroundedField config context

-- the errors of an export of a shape, over these types and functions
abbrev pub MayRefuseExported : Config → Context → Shape → Export → Error → Type 0
MayRefuseExported config context shape one (errors.IncorrectFormat SeveralMemories) = (counts_as counts.Memories one.1 ≡ 1)
    × (config.max_memories ≤ 1)
MayRefuseExported config context shape one (errors.IncorrectFormat SeveralTables) = (counts_as counts.Tables one.1 ≡ 1)
    × (config.reference_types_enabled ≡ false)
MayRefuseExported config context shape one e = (e ≡ errors.Memory) ⊎ ((e ≡ errors.EmptyChoose) × MayLackIn config context shape)

-- the errors of the exports of a shape, over these types and functions: no candidate, or a memory
-- or a table of the shape may not follow others
abbrev pub MayRefuseRequired : Config → Context → Shape → Error → Type 0
MayRefuseRequired config context shape (errors.IncorrectFormat SeveralMemories) = (0 < items_of_exports counts.Memories shape)
    × (config.max_memories ≤ 1)
MayRefuseRequired config context shape (errors.IncorrectFormat SeveralTables) = (0 < items_of_exports counts.Tables shape)
    × (config.reference_types_enabled ≡ false)
MayRefuseRequired config context shape e = (e ≡ errors.Memory) ⊎ ((e ≡ errors.EmptyChoose) × MayLackIn config context shape)
