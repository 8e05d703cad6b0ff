-- Properties of index spaces with imports first, then definitions.
use Rattle.std.specs.Prelude.{◌≡◌, ℕ, ◌+◌, ◌-◌, ◌<◌, ◌≤◌, ◌^◌, ◌⊎◌, max, Option, Some, List, [], ◌++◌, map, length, slice_get, All}
use Rattle.std.specs.Prelude.{if◌then◌else◌}
use Rattle.std.specs.List.{flat_map}
use Rattle.smith_draw_definitions.specs.Common.{Config, ConstInstr, Context, EntitySpaces, Error, features_of, GlobalType, GroupedTypes}
use Rattle.smith_draw_definitions.specs.Common.{IsTableInitialised, SubType, TableType}
use Rattle.smith_bytes.specs.declared.error.Error.TheVariants as errors
use Rattle.smith_types.specs.Entities.{IsFuncTypeIndex, IsGlobalValid, AreEntitiesValid, AreCountsEnabled}
use Rattle.smith_types.specs.Expressions.{IsConstExpr}
use Rattle.smith_types.specs.Grown.{Extends}
use Rattle.smith_types.specs.Imports.{Defines}
use Rattle.smith_types.specs.ValidTypes.{AreTypesValid}
use Rattle.smith_config.specs.Faults.{Passes}
use Rattle.smith_config.specs.Sanitized.{IsSanitized}
use Rattle.smith_config.specs.EntityBounds.{IsTableWithin, IsMemoryWithin}
use Rattle.smith_draw_types.specs.HeldFields.{HoldsUngroundedField}
use Rattle.smith_types.specs.Floats.{GivesNoFloat, HasNoFloatValue}
use Rattle.smith_draw_types.specs.Grounding.{without_globals}
use Rattle.smith_draw_types.specs.declared.spaces.Spaces.{Spaces}
use Rattle.smith_draw_definitions.specs.Definitions.{InitialiserScope, scope_over, context_at, table_scope}
use Rattle.smith_config.specs.Granted.{HasGroundedElements, HasGroundedValue}
use Rattle.smith_module_rules.specs.Promises.{initial_of}
use Rattle.smith_module_rules.specs.Refusals.{MayRefuse}
use Rattle.smith_draw_definitions.specs.declared.definitions.Definitions.{Definitions}

-- the space begins with `before`, and its number of items is within these bounds, or is that of
-- `before`
pub record IsFilled {A : Type 0} (least most : ℕ) (before space : List A) : Type 0 where
  pub extends : Extends before space
  pub enough : least ≤ length space
  pub within : length space ≤ max most (length before)

-- the space is `before` followed by items with this property
pub record AreAdded {A : Type 0} (Holds : A → Type 0) (before space : List A) : Type 0 where
  pub more : List A
  pub parts : space ≡ before ++ more
  pub each : All Holds more

-- the indices of all entities have 32 bits, even with `more` additional entities of each kind
pub record HasRoom (spaces : EntitySpaces) (more : ℕ) : Type 0 where
  pub tags : length spaces.tags + more < 2 ^ 32
  pub funcs : length spaces.funcs + more < 2 ^ 32
  pub tables : length spaces.tables + more < 2 ^ 32
  pub memories : length spaces.memories + more < 2 ^ 32
  pub globals : length spaces.globals + more < 2 ^ 32

-- the types, functions and globals that initialisers may refer to are valid
pub record MayInitialise (config : Config) (space : GroupedTypes) (standing : InitialiserScope) : Type 0 where
  pub passes : Passes config
  pub sanitized : IsSanitized config
  pub valid : AreTypesValid (features_of config) space
  pub types : standing.types ≡ space.types
  pub funcs : All (IsFuncTypeIndex space.types) standing.funcs
  pub globals : All (IsGlobalValid (features_of config) space.types) standing.imported_globals
  pub few_funcs : length standing.funcs < 2 ^ 32
  pub few_globals : length standing.imported_globals < 2 ^ 32

-- the context of drawn entities over these types and functions
abbrev pub drawn_over : Config → InitialiserScope → Context
drawn_over config standing = without_globals (table_scope config standing)

-- the context of drawn entities over these types and index spaces; functions that are not defined
-- are imported
abbrev pub drawn_beside : Config → List SubType → EntitySpaces → Definitions → Context
drawn_beside config types spaces defined = record {
  features = features_of config;
  types = types;
  funcs = spaces.funcs;
  globals = [];
  imported_funcs = length spaces.funcs - defined.num_funcs;
  imported_globals = 0;
  visible = 0;
}

-- the errors of drawing an initialiser: lack of memory, or no candidate
abbrev pub MayRefuseDrawn : Config → Context → Error → Type 0
MayRefuseDrawn config context e = (e ≡ errors.Memory) ⊎ ((e ≡ errors.EmptyChoose) × HoldsUngroundedField config context)

-- the types, functions and globals that initialisers of tables may refer to, over spaces whose
-- globals are the imported ones
abbrev pub scope_of_spaces : Spaces → InitialiserScope
scope_of_spaces spaces = record {
  types = spaces.types.now.types;
  funcs = spaces.entities.funcs.now;
  imported_funcs = spaces.entities.imported_funcs;
  imported_globals = spaces.entities.globals.now;
}

-- the initialiser belongs to the global at this index, which follows the imported ones
pub record IsGlobalInitialised (config : Config) (standing : InitialiserScope) (globals : List GlobalType) (place index : ℕ)
    (initial : List ConstInstr) : Type 0 where
  pub in_order : index ≡ length standing.imported_globals + place
  pub global : GlobalType
  pub stands : slice_get globals index ≡ Some global
  pub initialised : IsConstExpr (context_at config standing globals (if config.gc_enabled then index else length standing.imported_globals))
      global.val_type initial

-- each initialiser belongs to a global that follows the imported ones
pub record AreGlobalsDefined (config : Config) (standing : InitialiserScope) (globals : List GlobalType)
    (initials : List (ℕ × List ConstInstr)) : Type 0 where
  pub count : length globals ≡ length standing.imported_globals + length initials
  pub each : (place index : ℕ) (initial : List ConstInstr) → slice_get initials place ≡ Some (index, initial)
      → IsGlobalInitialised config standing globals place index initial

-- nothing is defined
abbrev pub nothing_defined : Definitions
nothing_defined = record { num_tags = 0; num_funcs = 0; tables = []; num_memories = 0; globals = [] }

-- there are no more definitions than entities
pub record AreWithin (spaces : EntitySpaces) (defined : Definitions) : Type 0 where
  pub tags : defined.num_tags ≤ length spaces.tags
  pub funcs : defined.num_funcs ≤ length spaces.funcs
  pub memories : defined.num_memories ≤ length spaces.memories
  pub globals : length defined.globals ≤ length spaces.globals

-- items may be defined after these entities, some of which are already defined
pub record MayDefine (config : Config) (space : GroupedTypes) (spaces : EntitySpaces) (defined : Definitions) : Type 0 where
  pub passes : Passes config
  pub sanitized : IsSanitized config
  pub valid : AreTypesValid (features_of config) space
  pub least : config.min_types ≤ length space.types
  pub few : length space.types < 2 ^ 32
  pub entities : AreEntitiesValid (features_of config) space.types spaces
  pub counts : AreCountsEnabled (features_of config) spaces
  pub room : HasRoom spaces 0
  pub within : AreWithin spaces defined

-- the errors of definitions: those of a module, or of drawing an initialiser
abbrev pub MayRefuseDefined : Config → Context → Error → Type 0
MayRefuseDefined config context e = MayRefuse config e ⊎ MayRefuseDrawn config context e

-- the types, functions and globals that initialisers refer to, after functions are defined
abbrev pub scope_in : List SubType → EntitySpaces → EntitySpaces → InitialiserScope
scope_in types imported spaces = scope_over types spaces.funcs (length imported.funcs) imported.globals

-- the types, the entities that follow these imports, and each initialiser are valid
pub record StandsAfter (config : Config) (imported : EntitySpaces) (space : GroupedTypes) (spaces : EntitySpaces)
    (defined : Definitions) : Type 0 where
  pub types : AreTypesValid (features_of config) space
  pub entities : AreEntitiesValid (features_of config) space.types spaces
  pub counts : AreCountsEnabled (features_of config) spaces
  pub tags : Defines imported.tags defined.num_tags spaces.tags
  pub funcs : Defines imported.funcs defined.num_funcs spaces.funcs
  pub tables : Defines imported.tables (length defined.tables) spaces.tables
  pub memories : Defines imported.memories defined.num_memories spaces.memories
  pub globals : Defines imported.globals (length defined.globals) spaces.globals
  pub each_table : (place : ℕ) (initial : Option (List ConstInstr)) → slice_get defined.tables place ≡ Some initial
      → (table : TableType) × (slice_get spaces.tables (length imported.tables + place) ≡ Some table)
      × IsTableInitialised (context_at config (scope_in space.types imported spaces) spaces.globals (length imported.globals)) table initial
  pub each_global : (place index : ℕ) (initial : List ConstInstr) → slice_get defined.globals place ≡ Some (index, initial)
      → IsGlobalInitialised config (scope_in space.types imported spaces) spaces.globals place index initial

-- index spaces have, after `before`, as many items as the configuration requires and allows
pub record AreFilled (config : Config) (before spaces : EntitySpaces) : Type 0 where
  pub tags : IsFilled config.min_tags config.max_tags before.tags spaces.tags
  pub funcs : IsFilled config.min_funcs config.max_funcs before.funcs spaces.funcs
  pub tables : IsFilled config.min_tables config.max_tables before.tables spaces.tables
  pub memories : IsFilled config.min_memories config.max_memories before.memories spaces.memories
  pub globals : IsFilled config.min_globals config.max_globals before.globals spaces.globals
  pub each_table : AreAdded (IsTableWithin config) before.tables spaces.tables
  pub each_memory : AreAdded (IsMemoryWithin config) before.memories spaces.memories

-- index spaces have valid definitions after `before`
pub record AreDefinedMore (config : Config) (space : GroupedTypes) (before : EntitySpaces) (so_far : Definitions) (spaces : EntitySpaces)
    (defined : Definitions) : Type 0 where
  pub filled : AreFilled config before spaces
  pub grounded_tables : AreAdded (HasGroundedElements config (drawn_beside config space.types spaces defined)) before.tables spaces.tables
  pub grounded_globals : AreAdded (HasGroundedValue config (drawn_beside config space.types spaces defined)) before.globals spaces.globals
  pub stands : (imported : EntitySpaces) → StandsAfter config imported space before so_far
      → StandsAfter config imported space spaces defined

-- no global and no constant of the definitions is a float
pub record HaveNoFloats (spaces : EntitySpaces) (defined : Definitions) : Type 0 where
  pub globals : All HasNoFloatValue spaces.globals
  pub tables : All (All GivesNoFloat) (flat_map initial_of defined.tables)
  pub initials : All (All GivesNoFloat) (map (λ (one : ℕ × List ConstInstr). one.1) defined.globals)
