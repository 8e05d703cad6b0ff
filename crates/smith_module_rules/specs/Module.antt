-- The parts of a module, and its validity: the section Validation, Modules, of the WebAssembly Core
-- Specification 3.0.
use Rattle.std.specs.Prelude.{◌≡◌, ℕ, ◌+◌, Bool, IsTrue, Option, Some, None, List, length, slice_get}
use Rattle.smith_module_rules.specs.Common.{All, Config, ConstInstr, ElementSegment, EntitySpaces, ExportKind, flattened, imported_spaces}
use Rattle.smith_module_rules.specs.Common.{MemoryType, SubType, TableType}
use Rattle.std.specs.declared.ops.Range.{Range}
use Rattle.smith_types.specs.Syntax.Features.{Features}
use Rattle.smith_types.specs.GroupedTypes.{GroupedTypes}
use Rattle.smith_types.specs.ValidTypes.{AreTypesValid}
use Rattle.smith_types.specs.Imports.{Defines, IsImportsValid}
use Rattle.smith_types.specs.Entities.{AreEntitiesValid, AreCountsEnabled}
use Rattle.smith_types.specs.Expressions.{Context, IsConstExpr, seeing, seen_by_tables, seen_by_global, seen_by_segments}
use Rattle.smith_types.specs.Segments.{IsElementSegmentValid, IsDataValid}
use Rattle.smith_types.specs.Exports.{AreExportsValid, IsStartValid}
use Rattle.smith_types.specs.Bodies.{IsBodyValid, IsCounterGlobal}
use Rattle.smith_types.specs.Syntax.value_type.ValType.TheVariants.{Ref}
use Rattle.smith_types.specs.Syntax.entity_type.GlobalType.{GlobalType}
use Rattle.smith_types.specs.Syntax.imports.Imports.{Imports}
use Rattle.smith_types.specs.Syntax.segments.DataSegment.{DataSegment}
use Rattle.smith_types.specs.Syntax.code.Code.{Code}
use Rattle.smith_config.specs.Features.{features_of}
use Rattle.smith_config.specs.Sanitized.{sanitized}

-- The parts of a module. Each index space is complete, with imported items first (Structure,
-- Modules; Structure, Indices).
pub record ModuleParts : Type 0 where
  pub config : Config
  pub types : List SubType
  pub groups : List (Range ℕ)
  pub imports : List Imports
  pub num_imports : ℕ
  pub tags : List ℕ
  pub funcs : List ℕ
  pub tables : List TableType
  pub defined_tables : List (Option (List ConstInstr))
  pub memories : List MemoryType
  pub globals : List GlobalType
  pub defined_globals : List (ℕ × List ConstInstr)
  pub num_defined_tags : ℕ
  pub num_defined_funcs : ℕ
  pub num_defined_memories : ℕ
  pub exports : List (List ℕ × ExportKind × ℕ)
  pub start : Option ℕ
  pub elems : List ElementSegment
  pub datas : List DataSegment
  pub code : List Code
  pub fuel_globals : List ℕ
  pub encodes_types : Bool
  pub encodes_imports : Bool
  pub type_size : ℕ
  pub interesting_values32 : List ℕ
  pub interesting_values64 : List ℕ

-- the configuration of a module: the caller's, sanitised, without its available imports (own rule)
abbrev pub shown_config : Config → Config
shown_config config = record (sanitized config) { available_imports = None }

-- the features that a module's configuration enables (own rule)
abbrev pub module_features : ModuleParts → Features
module_features m = features_of m.config

-- the type space of a module (Structure, Recursive Types)
abbrev pub module_types : ModuleParts → GroupedTypes
module_types m = record { types = m.types; groups = m.groups }

-- the other index spaces of a module (Structure, Indices)
abbrev pub module_spaces : ModuleParts → EntitySpaces
module_spaces m = record { tags = m.tags; funcs = m.funcs; tables = m.tables; memories = m.memories; globals = m.globals }

-- the index spaces of a module's imports alone (Structure, Indices)
abbrev pub module_imports : ModuleParts → EntitySpaces
module_imports m = imported_spaces (flattened m.imports)

-- the context of a module's constant expressions, with no visible globals (Validation, Modules)
abbrev pub module_context : ModuleParts → Context
module_context m = record {
  features = module_features m;
  types = m.types;
  funcs = m.funcs;
  globals = m.globals;
  imported_funcs = length (module_imports m).funcs;
  imported_globals = length (module_imports m).globals;
  visible = 0;
}

-- the context of the initialiser of a table (Validation, Modules)
abbrev pub table_context : ModuleParts → Context
table_context m = seeing (module_context m) (seen_by_tables (module_context m))

-- the context of the initialiser of the global at `index` (Validation, Modules)
abbrev pub global_context : ModuleParts → ℕ → Context
global_context m index = seeing (module_context m) (seen_by_global (module_context m) index)

-- the context of the offset and the items of a segment (Validation, Modules)
abbrev pub segment_context : ModuleParts → Context
segment_context m = seeing (module_context m) (seen_by_segments (module_context m))

-- each index space has the imports first, then the definitions (Structure, Indices)
pub record AreSpacesMade (m : ModuleParts) : Type 0 where
  pub imports : m.num_imports ≡ length (flattened m.imports)
  pub tags : Defines (module_imports m).tags m.num_defined_tags m.tags
  pub funcs : Defines (module_imports m).funcs m.num_defined_funcs m.funcs
  pub tables : Defines (module_imports m).tables (length m.defined_tables) m.tables
  pub memories : Defines (module_imports m).memories m.num_defined_memories m.memories
  pub globals : Defines (module_imports m).globals (length m.defined_globals) m.globals

-- a table has a constant expression of its element type as initialiser, or none if the element type
-- is nullable (Validation, Tables); an initialiser requires garbage collection (own rule)
abbrev pub IsTableInitialised : Context → TableType → Option (List ConstInstr) → Type 0
IsTableInitialised context table None = IsTrue table.element_type.nullable
IsTableInitialised context table (Some expression) = IsTrue context.features.gc × IsConstExpr context (Ref table.element_type) expression

-- the defined table at `place` is valid with this initialiser (Validation, Tables)
abbrev pub IsTableDefined : ModuleParts → ℕ → Option (List ConstInstr) → Type 0
IsTableDefined m place initial =
    (table : TableType) × (slice_get m.tables (length (module_imports m).tables + place) ≡ Some table)
    × IsTableInitialised (table_context m) table initial

-- the defined global at `place` has this index and a valid initialiser (Validation, Globals)
pub record IsGlobalDefined (m : ModuleParts) (place index : ℕ) (initial : List ConstInstr) : Type 0 where
  pub in_order : index ≡ length (module_imports m).globals + place
  pub global : GlobalType
  pub stands : slice_get m.globals index ≡ Some global
  pub initialised : IsConstExpr (global_context m index) global.val_type initial

-- each defined table and global is valid (Validation, Tables; Globals)
pub record AreDefinitionsValid (m : ModuleParts) : Type 0 where
  pub tables : (place : ℕ) (initial : Option (List ConstInstr)) → slice_get m.defined_tables place ≡ Some initial
      → IsTableDefined m place initial
  pub globals : (place index : ℕ) (initial : List ConstInstr) → slice_get m.defined_globals place ≡ Some (index, initial)
      → IsGlobalDefined m place index initial

-- each defined function has a valid body (Validation, Functions), and each fuel counter is a global
-- that may count fuel (own rule)
pub record AreBodiesValid (m : ModuleParts) : Type 0 where
  pub each : length m.code ≡ m.num_defined_funcs
  pub bodies : All (IsBodyValid (module_features m) (length m.types) m.config.allow_invalid_funcs) m.code
  pub counters : All (IsCounterGlobal m.globals (length (module_imports m).globals)) m.fuel_globals

-- A module is valid under the features of its configuration, except for raw bytes in bodies
-- (Validation, Modules). Features, shared types and exact types follow own rules, and types of
-- equal groups are different (own rule).
pub record IsValid (m : ModuleParts) : Type 0 where
  pub types : AreTypesValid (module_features m) (module_types m)
  pub imports : All (IsImportsValid (module_features m)) m.imports
  pub spaces : AreSpacesMade m
  pub entities : AreEntitiesValid (module_features m) m.types (module_spaces m)
  pub counts : AreCountsEnabled (module_features m) (module_spaces m)
  pub definitions : AreDefinitionsValid m
  pub exports : AreExportsValid (module_spaces m) m.exports
  pub start : IsStartValid m.types m.funcs m.start
  pub elems : All (IsElementSegmentValid (segment_context m) m.tables) m.elems
  pub data_segments : All (IsDataValid (segment_context m) m.memories) m.datas
  pub bodies : AreBodiesValid m
