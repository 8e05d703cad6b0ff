-- Invariants of the step of tables while it defines tables after others. Rules of this project.
use Rattle.std.specs.Prelude.{◌≡◌, Option, List, ◌++◌, map, All}
use Rattle.smith_types.specs.Entities.{IsTableValid}
use Rattle.smith_types.specs.Floats.{HasNoFloat, GivesNoFloat}
use Rattle.smith_draw_definitions.specs.Common.{Config, ConstInstr, features_of, IsTableInitialised, TableType}
use Rattle.smith_config.specs.EntityBounds.{IsTableWithin}
use Rattle.smith_draw_definitions.specs.Definitions.{InitialiserScope, Table, table_scope}
use Rattle.smith_config.specs.Granted.{HasGroundedElements}
use Rattle.smith_draw_definitions.specs.Defined.{drawn_over}
use Rattle.smith_module_rules.specs.Promises.{initial_of}

-- a table may be defined with this initialiser, or with none
pub record IsTableFit (config : Config) (standing : InitialiserScope) (one : Table) : Type 0 where
  pub valid : IsTableValid (features_of config) standing.types one.0
  pub within : IsTableWithin config one.0
  pub grounded : HasGroundedElements config (drawn_over config standing) one.0
  pub initialised : IsTableInitialised (table_scope config standing) one.0 one.1
  pub floats : All HasNoFloat standing.types → All (All GivesNoFloat) (initial_of one.1)

-- the drawn tables follow the tables before, each with its initialiser, if any
pub record AreTablesDrawn (config : Config) (standing : InitialiserScope) (before space : List TableType)
    (old initials : List (Option (List ConstInstr))) : Type 0 where
  pub drawn : List Table
  pub tables : space ≡ before ++ map (λ (one : Table). one.0) drawn
  pub initialisers : initials ≡ old ++ map (λ (one : Table). one.1) drawn
  pub fit : All (IsTableFit config standing) drawn
