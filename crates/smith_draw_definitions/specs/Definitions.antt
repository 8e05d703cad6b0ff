-- The items of each kind that are defined after others, and the bytes left. Rules of this project.
use Rattle.std.specs.Prelude.{ℕ, ◌+◌, ◌-◌, Bool, ◌&&◌, ◌==◌, nat_lt, nat_le, Option, List, [], ◌++◌, map, take, length, Result, Ok, Err}
use Rattle.std.specs.Prelude.{ok_or, if◌then◌else◌}
use Rattle.smith_bytes.specs.declared.error.Count.{Count}
use Rattle.smith_bytes.specs.declared.error.Count.TheVariants as counts
use Rattle.smith_draw_definitions.specs.Common.{Config, ConstInstr, Context, EntitySpaces, Error, features_of, GlobalType, SubType}
use Rattle.smith_draw_definitions.specs.Common.{TableType}
use Rattle.smith_bytes.specs.declared.error.Error.TheVariants.{EmptyChoose, IncorrectFormat}
use Rattle.smith_bytes.specs.declared.error.Why.TheVariants.{Unmet}
use Rattle.smith_bytes.specs.Draws.{bool_at}
use Rattle.smith_bytes.specs.Growth.{grow_at}
use Rattle.smith_types.specs.Syntax.entity_type.MemoryType.{MemoryType}
use Rattle.smith_draw_types.specs.Choices.{chosen_at}
use Rattle.smith_draw_consts.specs.ConstExprs.{const_expr_at, table_init_at}
use Rattle.smith_draw_consts.specs.TriedLists.{try_grow_at}
use Rattle.smith_draw_types.specs.Grounding.{without_globals}
use Rattle.smith_draw_types.specs.GlobalTypes.{global_type_at}
use Rattle.smith_draw_types.specs.Memories.{memtype_at}
use Rattle.smith_draw_types.specs.TableTypes.{table_type_at}
use Rattle.smith_draw_types.specs.TypeUses.{types_for}
use Rattle.smith_bytes.specs.Steps.{◌>>=◌}
use Rattle.smith_draw_definitions.specs.declared.definitions.Definitions.{Definitions}
use Rattle.smith_draw_types.specs.declared.type_use.TypeUse.{TypeUse}
use Rattle.smith_draw_types.specs.declared.type_use.TypeUse.TheVariants as uses

-- items that are drawn after `before` items: if there are such items and the maximum is above 0,
-- one more bool is drawn at the maximum
abbrev pub past_maximum_at : {A : Type 0} → ℕ → ℕ → List A × List ℕ → List A × List ℕ
past_maximum_at most before grown =
    if (nat_lt 0 before && nat_lt 0 most) && nat_le most (before + length grown.0) then (grown.0, (bool_at grown.1).1) else grown

-- the items of a kind that are defined after `before` items: up to the minimum, then while a drawn
-- bool is true
unfoldable pub items_defined_at : {A : Type 0} → (List A → List ℕ → A × List ℕ) → ℕ → ℕ → ℕ → List ℕ → List A × List ℕ
items_defined_at draw least most before bytes = past_maximum_at most before (grow_at draw (least - before) (most - before) [] bytes)

-- the items of a kind that are defined after `before` items, by draws that may fail
unfoldable pub items_tried_at : {A : Type 0} → (List A → List ℕ → Result (A × List ℕ) Error) → ℕ → ℕ → ℕ → List ℕ
    → Result (List A × List ℕ) Error
items_tried_at draw least most before bytes = do
  grown ← try_grow_at draw (least - before) (most - before) [] bytes
  Ok (past_maximum_at most before grown)

-- the items after `before`
abbrev pub appended_to : {A : Type 0} → List A → List A × List ℕ → List A × List ℕ
appended_to before drawn = (before ++ drawn.0, drawn.1)

-- tags or functions after others, each with a type index drawn among `choices`; without choices
-- none is defined, and too few are an error
unfoldable pub type_indices_at : Count → List ℕ → ℕ → ℕ → List ℕ → List ℕ → Result (List ℕ × List ℕ) Error
type_indices_at count choices least most before bytes =
    if length choices == 0 then (if nat_lt (length before) least then Err (IncorrectFormat (Unmet count)) else Ok (before, bytes))
    else Ok (appended_to before (items_defined_at (λ _. chosen_at 0 choices) least most (length before) bytes))

-- the types that suit a use, if it is enabled
abbrev pub types_if : Bool → TypeUse → List SubType → List ℕ
types_if on for_use types = if on then types_for for_use types else []

-- the types that a tag may have: function types without results, if exceptions are enabled
abbrev pub tag_types : Config → List SubType → List ℕ
tag_types config types = types_if config.exceptions_enabled uses.Tag types

unfoldable pub tags_at : Config → List SubType → List ℕ → List ℕ → Result (List ℕ × List ℕ) Error
tags_at config types before bytes = type_indices_at counts.Tags (tag_types config types) config.min_tags config.max_tags before bytes

-- functions after others; their types are unshared function types
unfoldable pub funcs_at : Config → List SubType → List ℕ → List ℕ → Result (List ℕ × List ℕ) Error
funcs_at config types before bytes = type_indices_at counts.Funcs (types_for uses.DefinedFunc types) config.min_funcs config.max_funcs
    before bytes

unfoldable pub memories_at : Config → List MemoryType → List ℕ → List MemoryType × List ℕ
memories_at config before bytes =
    appended_to before (items_defined_at (λ _. memtype_at config) config.min_memories config.max_memories (length before) bytes)

-- the types, functions and globals that initialisers may refer to; imported globals come first
pub record InitialiserScope : Type 0 where
  pub types : List SubType
  pub funcs : List ℕ
  pub imported_funcs : ℕ
  pub imported_globals : List GlobalType

-- the scope with these types, functions and globals
abbrev pub scope_over : List SubType → List ℕ → ℕ → List GlobalType → InitialiserScope
scope_over types funcs imported_funcs imported_globals =
    record { types = types; funcs = funcs; imported_funcs = imported_funcs; imported_globals = imported_globals }

-- the scope with these types, functions and globals, by the numbers of imported ones
abbrev pub scope_among : List SubType → List ℕ → ℕ → ℕ → List GlobalType → InitialiserScope
scope_among types funcs imported_funcs imported_globals globals = scope_over types funcs imported_funcs (take imported_globals globals)

-- the context of an initialiser after these globals, which may read the globals below `visible`
abbrev pub context_at : Config → InitialiserScope → List GlobalType → ℕ → Context
context_at config standing globals visible = record {
  features = features_of config;
  types = standing.types;
  funcs = standing.funcs;
  globals = globals;
  imported_funcs = standing.imported_funcs;
  imported_globals = length standing.imported_globals;
  visible = visible;
}

-- the context of a table's initialiser, which reads imported globals only; and of a global's, which
-- with garbage collection reads all globals before it
abbrev pub table_scope : Config → InitialiserScope → Context
table_scope config standing = context_at config standing standing.imported_globals (length standing.imported_globals)

abbrev pub global_scope : Config → InitialiserScope → List GlobalType → Context
global_scope config standing globals =
    context_at config standing globals (if config.gc_enabled then length globals else length standing.imported_globals)

-- a defined table, and its initialiser, if any
abbrev pub Table : Type 0
Table = TableType × Option (List ConstInstr)

-- a table and its initialiser; an error if there is no candidate
unfoldable pub table_at : Config → InitialiserScope → List ℕ → Result (Table × List ℕ) Error
table_at config standing bytes = do
  let table = table_type_at config (without_globals (table_scope config standing)) bytes
  initial ← ok_or (table_init_at config (table_scope config standing) table.0.element_type table.1) EmptyChoose
  Ok ((table.0, initial.0), initial.1)

-- the tables and their initialisers, after others
unfoldable pub tables_at : Config → InitialiserScope → List TableType → List (Option (List ConstInstr)) → List ℕ
    → Result ((List TableType × List (Option (List ConstInstr))) × List ℕ) Error
tables_at config standing before initials bytes = do
  drawn ← items_tried_at (λ _. table_at config standing) config.min_tables config.max_tables (length before) bytes
  Ok ((before ++ map (λ (one : Table). one.0) drawn.0, initials ++ map (λ (one : Table). one.1) drawn.0), drawn.1)

-- a defined global, its index and its initialiser
abbrev pub Global : Type 0
Global = GlobalType × (ℕ × List ConstInstr)

-- the globals so far
abbrev pub globals_of : List GlobalType → List Global → List GlobalType
globals_of before defined = before ++ map (λ (one : Global). one.0) defined

-- a global after those of a context, its index and its initialiser; an error if there is no
-- candidate
unfoldable pub initialised_at : Config → Context → List ℕ → Result (Global × List ℕ) Error
initialised_at config context bytes = do
  let global = global_type_at config (without_globals context) bytes
  initial ← ok_or (const_expr_at config context global.0.val_type global.1) EmptyChoose
  Ok ((global.0, (length context.globals, initial.0)), initial.1)

-- a global after the globals defined so far
unfoldable pub global_at : Config → InitialiserScope → List GlobalType → List Global → List ℕ → Result (Global × List ℕ) Error
global_at config standing before defined = initialised_at config (global_scope config standing (globals_of before defined))

-- the globals, their indices and their initialisers, after others
unfoldable pub globals_at : Config → InitialiserScope → List GlobalType → List (ℕ × List ConstInstr) → List ℕ
    → Result ((List GlobalType × List (ℕ × List ConstInstr)) × List ℕ) Error
globals_at config standing before initials bytes = do
  drawn ← items_tried_at (global_at config standing before) config.min_globals config.max_globals (length before) bytes
  Ok ((globals_of before drawn.0, initials ++ map (λ (one : Global). one.1) drawn.0), drawn.1)

-- the definitions in index spaces after `before`, with these initialisers of tables and globals
abbrev pub defined_in : EntitySpaces → Definitions → EntitySpaces → List (Option (List ConstInstr)) → List (ℕ × List ConstInstr)
    → Definitions
defined_in before defined spaces tables globals = record {
  num_tags = defined.num_tags + (length spaces.tags - length before.tags);
  num_funcs = defined.num_funcs + (length spaces.funcs - length before.funcs);
  tables = tables;
  num_memories = defined.num_memories + (length spaces.memories - length before.memories);
  globals = globals;
}

-- the index spaces that the bytes give after `before`, and their definitions; entities that are not
-- defined are imported
unfoldable pub definitions_at : Config → List SubType → EntitySpaces → Definitions → List ℕ → Result ((EntitySpaces × Definitions) × List ℕ)
    Error
definitions_at config types before defined bytes = do
  tags ← tags_at config types before.tags bytes
  funcs ← funcs_at config types before.funcs tags.1
  let standing = scope_among types funcs.0 (length before.funcs - defined.num_funcs) (length before.globals - length defined.globals)
      before.globals
  tables ← tables_at config standing before.tables defined.tables funcs.1
  let memories = memories_at config before.memories tables.1
  globals ← globals_at config standing before.globals defined.globals memories.1
  let spaces : EntitySpaces = record { tags = tags.0; funcs = funcs.0; tables = tables.0.0; memories = memories.0; globals = globals.0.0 }
  Ok ((spaces, defined_in before defined spaces tables.0.1 globals.0.1), globals.1)
