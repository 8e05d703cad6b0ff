-- Invariants and errors of the step of imports. Rules of this project.
use Rattle.std.specs.Prelude.{◌≡◌, ℕ, ◌+◌, ◌*◌, ◌^◌, ◌<◌, ◌≤◌, ◌⊎◌, Bool, true, false, ◌&&◌, IsTrue, List, [], length, map, All}
use Rattle.std.specs.HashSet.{IsEmpty}
use Rattle.smith_bytes.specs.declared.error.Error.{Error}
use Rattle.smith_bytes.specs.declared.error.Error.TheVariants as errors
use Rattle.smith_bytes.specs.declared.error.Why.TheVariants.{Unmet}
use Rattle.smith_bytes.specs.declared.error.Count.TheVariants as counts
use Rattle.smith_types.specs.Entities.{AreEntitiesValid}
use Rattle.smith_types.specs.Exports.{AreDistinct, entity_kind}
use Rattle.smith_types.specs.Flags.{IsImportsEnabled}
use Rattle.smith_types.specs.Floats.{HasNoFloatValue}
use Rattle.smith_types.specs.Imports.{EntitySpaces, IsImportsValid, flattened, imported_spaces, tag_of, table_of, memory_of, global_of}
use Rattle.smith_types.specs.Imports.{entity_spaces}
use Rattle.smith_types.specs.EntitySpaces.{spaces_in, with_entity}
use Rattle.smith_types.specs.Sizes.{IsTyped, size_in}
use Rattle.smith_types.specs.GroupedTypes.{GroupedTypes}
use Rattle.smith_types.specs.ValidTypes.{AreTypesValid}
use Rattle.smith_types.specs.Syntax.composite_type.SubType.{SubType}
use Rattle.smith_types.specs.Syntax.entity_type.EntityType.{EntityType}
use Rattle.smith_types.specs.Syntax.entity_type.ExportKind.{ExportKind}
use Rattle.smith_types.specs.Syntax.imports.Import.{Import}
use Rattle.smith_types.specs.Syntax.imports.Imports.{Imports}
use Rattle.smith_types.specs.Syntax.imports.Imports.TheVariants.{Single, Compact2}
use Rattle.smith_config.specs.declared.config.Config.{Config}
use Rattle.smith_config.specs.Faults.{Passes}
use Rattle.smith_config.specs.Features.{features_of}
use Rattle.smith_config.specs.InUse.{FixesImports}
use Rattle.smith_config.specs.Sanitized.{IsSanitized}
use Rattle.smith_config.specs.Granted.{HasGroundedElements, HasGroundedValue}
use Rattle.smith_config.specs.EntityBounds.{IsTableWithin, IsMemoryWithin}
use Rattle.smith_draw_types.specs.FuncSizes.{IsSmall}
use Rattle.smith_draw_imports.specs.ImportNames.{KnowsPairs}
use Rattle.smith_draw_imports.specs.ImportedEntities.{has_room, may_import, import_scope, sizes}
use Rattle.smith_bytes.specs.Spelling.{SpellsNone}
use Rattle.smith_module_rules.specs.Refusals.{MayLackImports}
use Rattle.smith_draw_imports.specs.declared.imports_so_far.Imported.{Imported}

-- imports may be drawn over these types: no shape fixes the imports, and the function types are
-- small
pub record MayImport (config : Config) (space : GroupedTypes) : Type 0 where
  pub passes : Passes config
  pub sanitized : IsSanitized config
  pub free : FixesImports config → ⊥
  pub valid : AreTypesValid (features_of config) space
  pub few : length space.types < 2 ^ 32
  pub small : All IsSmall space.types

-- the index spaces of the imports so far
abbrev pub spaces_of : Imported → EntitySpaces
spaces_of imported = spaces_in imported.spaces

-- nothing is imported yet
pub record HasNoImports (imported : Imported) : Type 0 where
  pub groups : imported.groups ≡ []
  pub spaces : spaces_of imported ≡ record { tags = []; funcs = []; tables = []; memories = []; globals = [] }
  pub count : imported.count ≡ 0
  pub type_size : imported.type_size ≡ 0
  pub pairs : IsEmpty imported.pairs

-- an import of an entity is counted, and nothing else changes
pub record AreImportsCounted (types : List SubType) (added : EntityType) (old new : Imported) : Type 0 where
  pub groups : new.groups ≡ old.groups
  pub spaces : spaces_of new ≡ with_entity (spaces_of old) added
  pub count : new.count ≡ old.count + 1
  pub type_size : new.type_size ≡ old.type_size + (size_in types added + 1)
  pub pairs : new.pairs ≡ old.pairs

-- `imported` has the counts of these imports
pub record Counts (types : List SubType) (distinct : Bool) (imported : Imported) (imports : List Import) : Type 0 where
  pub spaces : spaces_of imported ≡ imported_spaces imports
  pub count : imported.count ≡ length imports
  pub type_size : imported.type_size ≡ sizes types imports
  pub pairs : KnowsPairs distinct imported.pairs imports

-- index spaces have at most as many entities of each kind as the configuration allows
pub record AreNumbersWithin (config : Config) (spaces : EntitySpaces) : Type 0 where
  pub tags : length spaces.tags ≤ config.max_tags
  pub funcs : length spaces.funcs ≤ config.max_funcs
  pub tables : length spaces.tables ≤ config.max_tables
  pub memories : length spaces.memories ≤ config.max_memories
  pub globals : length spaces.globals ≤ config.max_globals

-- index spaces have at most as many entities of each kind, and as large tables and memories, as the
-- configuration allows
pub record AreSpacesWithin (config : Config) (spaces : EntitySpaces) : Type 0 where
  pub tags : length spaces.tags ≤ config.max_tags
  pub funcs : length spaces.funcs ≤ config.max_funcs
  pub tables : length spaces.tables ≤ config.max_tables
  pub memories : length spaces.memories ≤ config.max_memories
  pub globals : length spaces.globals ≤ config.max_globals
  pub each_table : All (IsTableWithin config) spaces.tables
  pub each_memory : All (IsMemoryWithin config) spaces.memories

-- imports are valid and within the bounds; on average they add at most 42 to the type size; their
-- pairs of names are distinct if required
pub record AreImportsFit (config : Config) (types : List SubType) (distinct : Bool) (imports : List Import) : Type 0 where
  pub entities : AreEntitiesValid (features_of config) types (imported_spaces imports)
  pub tags : 0 < length (imported_spaces imports).tags → IsTrue config.exceptions_enabled
  pub within : AreSpacesWithin config (imported_spaces imports)
  pub most : length imports ≤ config.max_imports
  pub type_size : sizes types imports ≤ config.max_type_size
  pub small : sizes types imports ≤ 42 * length imports
  pub grounded_tables : All (HasGroundedElements config (import_scope config types (imported_spaces imports)))
      (imported_spaces imports).tables
  pub grounded_globals : All (HasGroundedValue config (import_scope config types (imported_spaces imports)))
      (imported_spaces imports).globals
  pub floats : config.allow_floats ≡ false → All HasNoFloatValue (imported_spaces imports).globals
  pub apart : IsTrue distinct → AreDistinct {A = List ℕ × List ℕ} (map (λ (one : Import). (one.«module», one.name)) imports)

-- an entity may be imported
pub record IsEntityFit (config : Config) (types : List SubType) (added : EntityType) : Type 0 where
  pub valid : AreEntitiesValid (features_of config) types (entity_spaces added)
  pub tag : 0 < length (tag_of added) → IsTrue config.exceptions_enabled
  pub tables : All (IsTableWithin config) (table_of added)
  pub memories : All (IsMemoryWithin config) (memory_of added)
  pub floats : config.allow_floats ≡ false → All HasNoFloatValue (global_of added)
  pub small : size_in types added ≤ 41
  pub typed : IsTyped types added

-- an entity may be imported after these index spaces
pub record IsFitBeside (config : Config) (types : List SubType) (spaces : EntitySpaces) (added : EntityType) : Type 0 where
  pub entity : IsEntityFit config types added
  pub grounded_tables : All (HasGroundedElements config (import_scope config types spaces)) (table_of added)
  pub grounded_globals : All (HasGroundedValue config (import_scope config types spaces)) (global_of added)

-- an entity may be imported after these index spaces and this type size
pub record IsNext (config : Config) (types : List SubType) (spaces : EntitySpaces) (size : ℕ) (added : EntityType) : Type 0 where
  pub fit : IsFitBeside config types spaces added
  pub room : has_room config spaces (entity_kind added) ≡ true
  pub fits : size + (size_in types added + 1) ≤ config.max_type_size
  pub sum : size + (size_in types added + 1) < 2 ^ 32

-- one more entity of a kind may be imported
abbrev pub MayImportKind : Config → List SubType → EntitySpaces → ExportKind → Type 0
MayImportKind config types spaces of_kind = (may_import config types of_kind && has_room config spaces of_kind) ≡ true

-- imports may end at these index spaces and this type size: an import may exceed the type size, or
-- a kind is full
abbrev pub MayEndAt : Config → EntitySpaces → ℕ → Type 0
MayEndAt config spaces size = (config.max_type_size < size + 42) ⊎ ((of_kind : ExportKind) × (has_room config spaces of_kind ≡ false))

-- imports may end at `count` imports: the next import may exceed the type size, or they may fill
-- some kind
abbrev pub MayEnd : Config → ℕ → Type 0
MayEnd config count =
    (config.max_type_size < 42 * (count + 1))
    ⊎ ((config.max_tags ≤ count)
    ⊎ ((config.max_funcs ≤ count) ⊎ ((config.max_globals ≤ count) ⊎ ((config.max_memories ≤ count) ⊎ (config.max_tables ≤ count)))))

-- a group is compact
abbrev pub IsCompact : Imports → Type 0
IsCompact (Single imported) = ⊥
IsCompact _ = Unit {0}

-- the type of all imports of a group, if it has one, may be imported after these index spaces
abbrev pub HasFitEntity : Config → List SubType → EntitySpaces → Imports → Type 0
HasFitEntity config types spaces (Compact2 from entity_type names) = IsFitBeside config types spaces entity_type
HasFitEntity config types spaces _ = Unit {0}

-- an import of a group may have this type
abbrev pub IsOfGroup : Imports → EntityType → Type 0
IsOfGroup (Compact2 from entity_type names) added = added ≡ entity_type
IsOfGroup _ added = Unit {0}

-- imports may be added to a group after these index spaces
pub record IsOpen (config : Config) (types : List SubType) (spaces : EntitySpaces) (group : Imports) : Type 0 where
  pub fit : HasFitEntity config types spaces group
  pub enabled : IsImportsEnabled (features_of config) group
  pub compact : IsCompact group

-- the imports so far: valid groups, and their counts
pub record IsImported (config : Config) (types : List SubType) (distinct : Bool) (imported : Imported) : Type 0 where
  pub counts : Counts types distinct imported (flattened imported.groups)
  pub fit : AreImportsFit config types distinct (flattened imported.groups)
  pub groups : All (IsImportsValid (features_of config)) imported.groups

-- the errors of the step of imports: lack of memory, or a minimum above zero that may not be met
abbrev pub MayRefuseImports : Config → Error → Type 0
MayRefuseImports config e = (e ≡ errors.Memory) ⊎ ((e ≡ errors.IncorrectFormat (Unmet counts.Imports)) × (0 < config.min_imports)
    × MayLackImports config)

-- there is no import
unfoldable pub SpellsNoImport : Config → List Imports → List ℕ → Type 0
SpellsNoImport config groups piece = (groups ≡ []) × SpellsNone config.max_imports piece
