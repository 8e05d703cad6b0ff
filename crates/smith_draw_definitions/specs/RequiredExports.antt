-- The exports if a shape fixes them: each refers to an entity that is defined for it. Rules of this
-- project.
use Rattle.std.specs.Prelude.{ℕ, ◌+◌, ◌-◌, Bool, true, false, not, ◌&&◌, nat_lt, nat_le, List, [], ◌∷◌, ◌++◌, Option, Some, None}
use Rattle.std.specs.Prelude.{option_map, length, slice_get, Result, Ok, Err, if◌then◌else◌}
use Rattle.smith_draw_definitions.specs.Common.{Config, ConstInstr, Context, EntitySpaces, Error, features_of, GroupedTypes, SubType}
use Rattle.smith_bytes.specs.declared.error.Error.TheVariants as errors
use Rattle.smith_bytes.specs.declared.error.Why.{Why}
use Rattle.smith_bytes.specs.declared.error.Why.TheVariants.{SeveralMemories, SeveralTables}
use Rattle.smith_types.specs.EntitySpaces.{with_entity}
use Rattle.smith_types.specs.Types.{next_group}
use Rattle.smith_types.specs.Syntax.entity_type.EntityType.{EntityType}
use Rattle.smith_types.specs.Syntax.entity_type.EntityType.TheVariants as entity
use Rattle.smith_types.specs.Syntax.entity_type.ExportKind.{ExportKind}
use Rattle.smith_types.specs.Syntax.entity_type.ExportKind.TheVariants as kind
use Rattle.smith_config.specs.declared.shape.Shape.{Shape}
use Rattle.smith_config.specs.Shapes.{shape_types, shape_spaces}
use Rattle.smith_draw_consts.specs.ConstExprs.{const_expr_at, table_init_at}
use Rattle.smith_module_rules.specs.ExportedItems.{Export}
use Rattle.smith_draw_definitions.specs.declared.definitions.Definitions.{Definitions}

-- the entity with a kind and an index, if it exists
abbrev pub entity_of : EntitySpaces → ExportKind → ℕ → Option EntityType
entity_of spaces kind.Func index = option_map entity.Func (slice_get spaces.funcs index)
entity_of spaces kind.Table index = option_map entity.Table (slice_get spaces.tables index)
entity_of spaces kind.Memory index = option_map entity.Memory (slice_get spaces.memories index)
entity_of spaces kind.Global index = option_map entity.Global (slice_get spaces.globals index)
entity_of spaces kind.Tag index = option_map entity.Tag (slice_get spaces.tags index)

-- the index of the next item of a kind
abbrev pub next_index : EntitySpaces → ExportKind → ℕ
next_index spaces kind.Func = length spaces.funcs
next_index spaces kind.Table = length spaces.tables
next_index spaces kind.Memory = length spaces.memories
next_index spaces kind.Global = length spaces.globals
next_index spaces kind.Tag = length spaces.tags

-- the reason why an entity may not follow others: a second memory, or a second table, without its
-- feature
abbrev pub several : Config → EntitySpaces → EntityType → Option Why
several config spaces (entity.Memory memory) = if nat_lt 0 (length spaces.memories) && nat_le config.max_memories 1 then Some
    SeveralMemories else None
several config spaces (entity.Table table) = if nat_lt 0 (length spaces.tables) && not config.reference_types_enabled then Some
    SeveralTables else None
several config spaces _ = None

-- the context of an initialiser after these entities; entities that are not defined are imported;
-- with garbage collection, defined globals may be read if that is allowed
abbrev pub scope_beside : Config → List SubType → EntitySpaces → Definitions → Bool → Context
scope_beside config types spaces defined allow_defined =
    let imported = length spaces.globals - length defined.globals in
    record {
      features = features_of config;
      types = types;
      funcs = spaces.funcs;
      globals = spaces.globals;
      imported_funcs = length spaces.funcs - defined.num_funcs;
      imported_globals = imported;
      visible = if config.gc_enabled && allow_defined then length spaces.globals else imported;
    }

-- the result of a draw, or an error if there is no candidate
abbrev pub made_of : {A B : Type 0} → (A → B) → Option (A × List ℕ) → Result (B × List ℕ) Error
made_of make None = Err errors.EmptyChoose
made_of make (Some drawn) = Ok (make drawn.0, drawn.1)

-- the definitions with one more initialiser of a table, or of a global of this index
abbrev pub with_table : Definitions → Option (List ConstInstr) → Definitions
with_table defined initial = record defined { tables = defined.tables ++ initial ∷ [] }

abbrev pub with_global : Definitions → ℕ → List ConstInstr → Definitions
with_global defined index initial = record defined { globals = defined.globals ++ (index, initial) ∷ [] }

-- the definitions with one more entity; a table and a global have an initialiser
unfoldable pub defined_with_at : Config → List SubType → EntitySpaces → Definitions → EntityType → List ℕ
    → Result (Definitions × List ℕ) Error
defined_with_at config types spaces defined (entity.Tag index) bytes = Ok (record defined { num_tags = defined.num_tags + 1 }, bytes)
defined_with_at config types spaces defined (entity.Func index) bytes = Ok (record defined { num_funcs = defined.num_funcs + 1 }, bytes)
defined_with_at config types spaces defined (entity.Memory memory) bytes = Ok (
  record defined { num_memories = defined.num_memories + 1 },
  bytes,
)
defined_with_at config types spaces defined (entity.Table table) bytes =
    made_of (with_table defined) (table_init_at config (scope_beside config types spaces defined false) table.element_type bytes)
defined_with_at config types spaces defined (entity.Global global) bytes =
    made_of (with_global defined (length spaces.globals)) (const_expr_at config (scope_beside config types spaces defined true)
    global.val_type bytes)

-- the result of a step, or the error for this reason, if any
abbrev pub unless : {A : Type 0} → Option Why → Result A Error → Result A Error
unless None answer = answer
unless (Some why) answer = Err (errors.IncorrectFormat why)

abbrev pub then_with : {A B : Type 0} → (A → B) → Result (A × List ℕ) Error → Result (B × List ℕ) Error
then_with f (Ok drawn) = Ok (f drawn.0, drawn.1)
then_with f (Err e) = Err e

-- index spaces with one more entity, and their definitions, unless the entity may not follow the
-- others
unfoldable pub entity_required_at : Config → List SubType → EntitySpaces → Definitions → EntityType → List ℕ
    → Result ((EntitySpaces × Definitions) × List ℕ) Error
entity_required_at config types spaces defined one bytes =
    unless (several config spaces one) (then_with (λ more. (with_entity spaces one, more))
    (defined_with_at config types spaces defined one bytes))

-- the types with one more, in a group of its own
abbrev pub with_own_group : GroupedTypes → Option SubType → GroupedTypes
with_own_group space None = space
with_own_group space (Some t) = let types = space.types ++ t ∷ [] in
    record { types = types; groups = space.groups ++ next_group types space.groups ∷ [] }

-- the types with the type of an entity of other types, if it is a function or a tag
abbrev pub with_type_of : List SubType → GroupedTypes → EntityType → GroupedTypes
with_type_of theirs space (entity.Func index) = with_own_group space (slice_get theirs index)
with_type_of theirs space (entity.Tag index) = with_own_group space (slice_get theirs index)
with_type_of theirs space _ = space

-- an entity of a shape, with a type of its own
abbrev pub of_own_type : GroupedTypes → EntityType → EntityType
of_own_type space (entity.Func index) = entity.Func (length space.types)
of_own_type space (entity.Tag index) = entity.Tag (length space.types)
of_own_type space one = one

-- the types and the entity for an entity of a shape; with own types its type is added, else it
-- exists already
abbrev pub types_over : Bool → List SubType → GroupedTypes → EntityType → GroupedTypes
types_over true theirs space one = with_type_of theirs space one
types_over false theirs space one = space

abbrev pub entity_over : Bool → GroupedTypes → EntityType → EntityType
entity_over true space one = of_own_type space one
entity_over false space one = one

-- the state while exports are made: types, index spaces, their definitions, and the exports so far
pub record Required : Type 0 where
  pub types : GroupedTypes
  pub spaces : EntitySpaces
  pub defined : Definitions
  pub exports : List Export

-- the state with these parts
abbrev pub standing_with : GroupedTypes → EntitySpaces → Definitions → List Export → Required
standing_with types spaces defined exports = record { types = types; spaces = spaces; defined = defined; exports = exports }

-- the state with one more export of a shape, which refers to an entity that is defined for it
abbrev pub export_required_at : Bool → Config → Shape → Export → Required → List ℕ → Option EntityType → Result (Required × List ℕ) Error
export_required_at own_types config shape one now bytes None = Ok (now, bytes)
export_required_at own_types config shape one now bytes (Some theirs) =
    let types = types_over own_types (shape_types shape) now.types theirs in
    then_with (λ (more : EntitySpaces × Definitions). standing_with types more.0 more.1
    (now.exports ++ (one.0, one.1, next_index now.spaces one.1) ∷ []))
    (entity_required_at config types.types now.spaces now.defined (entity_over own_types now.types theirs) bytes)

-- the next step after the result of a step
abbrev pub and_then : {A B : Type 0} → (A → List ℕ → Result B Error) → Result (A × List ℕ) Error → Result B Error
and_then f (Ok drawn) = f drawn.0 drawn.1
and_then f (Err e) = Err e

-- the state with the exports of a shape, one after another
unfoldable pub required_from : Bool → Config → Shape → List Export → Required → List ℕ → Result (Required × List ℕ) Error
required_from own_types config shape [] now bytes = Ok (now, bytes)
required_from own_types config shape (one ∷ more) now bytes =
    and_then (required_from own_types config shape more) (export_required_at own_types config shape one now bytes
    (entity_of (shape_spaces shape) one.1 one.2))

-- the state with the exports of a shape, after the existing entities
abbrev pub required_at : Bool → Config → Shape → GroupedTypes → EntitySpaces → Definitions → List ℕ → Result (Required × List ℕ) Error
required_at own_types config shape types spaces defined bytes =
    required_from own_types config shape shape.exports (standing_with types spaces defined []) bytes
