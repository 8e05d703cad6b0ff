-- Properties of tables after imported ones, with their initialisers.
use Rattle.smith_draw_definitions.proofs.Common.{[], All, All-append, All-cons, All-nil, All-weaker, and_right, ap, append-nil, arith, Bool}
use Rattle.smith_draw_definitions.proofs.Common.{cond, Config, ConstInstr, EmptyChoose, Err, Error, false, features_of, following_so, IfOk}
use Rattle.smith_draw_definitions.proofs.Common.{IsConstExpr, IsSanitized, IsTableValid, IsTrue, length, List, map, None, Ok, Option, Ref}
use Rattle.smith_draw_definitions.proofs.Common.{refl, Result, seen_by, slice_get, Some, SpellsEmpty, SpellsNone, subst, suc, TableType}
use Rattle.smith_draw_definitions.proofs.Common.{takes_if_read, true, zero, ℕ, ◌&&◌, ◌++◌, ◌<◌, ◌>>=◌, ◌∷◌, ◌≡◌, ◌≤◌}
use Rattle.std.specs.Prelude.{IfSome, IsSome}
use Rattle.std.specs.List.{flat_map, AllByRecursion as Each}
use Rattle.std.proofs.lemmas.Grind.{flat_map-append}
use Rattle.std.proofs.lemmas.List.Elements.{All-map, recursion_from_All}
use Rattle.smith_bytes.specs.Takes.{Takes}
use Rattle.smith_types.specs.Floats.{HasNoFloat, GivesNoFloat}
use Rattle.smith_types.specs.Syntax.value_type.RefType.{RefType}
use Rattle.smith_validity.proofs.HeldValueLemmas.{all_of_parts}
use Rattle.smith_config.specs.EntityBounds.{IsTableWithin}
use Rattle.smith_draw_consts.specs.ConstExprs.{table_init_at}
use Rattle.smith_draw_consts.specs.ConstScopes.{AreSpacesValid}
use Rattle.smith_draw_types.specs.TableTypes.{table_type_at}
use Rattle.smith_draw_types.specs.declared.spaces.Spaces.{Spaces}
use Rattle.smith_config.specs.Granted.{HasGroundedElements}
use Rattle.smith_draw_definitions.specs.Defined.{IsFilled, AreAdded, MayInitialise, drawn_over, scope_of_spaces}
use Rattle.smith_draw_definitions.specs.DefinedTables.{IsTableFit, AreTablesDrawn}
use Rattle.smith_draw_definitions.specs.Definitions.{InitialiserScope, Table, table_at, tables_at, table_scope}
use Rattle.smith_module_rules.specs.Promises.{initial_of}
use Rattle.smith_draw_definitions.proofs.DefinedLemmas.{parts_filled, several_so, all_after, tried_none}

-- with defined globals invisible, the imported ones are visible
imported_seen : (on : Bool) (globals imported : ℕ) → cond (on && false) globals imported ≡ imported
imported_seen on globals imported = rw (and_right on false refl) refl

-- over spaces whose globals are all imported, an expression sees the scope of the initialiser of a
-- table
seen_by_table : (config : Config) (spaces : Spaces) → spaces.entities.imported_globals ≡ length spaces.entities.globals.now
    → seen_by config spaces false ≡ table_scope config (scope_of_spaces spaces)
seen_by_table config spaces all = rw (
  imported_seen config.gc_enabled (length spaces.entities.globals.now) spaces.entities.imported_globals,
  all,
) refl

pub spaces_valid : (config : Config) (spaces : Spaces) → MayInitialise config spaces.types.now (scope_of_spaces spaces)
    → spaces.entities.imported_globals ≡ length spaces.entities.globals.now → AreSpacesValid config spaces
spaces_valid config spaces may all = record {
  types = may.valid;
  funcs = may.funcs;
  globals = may.globals;
  imported = omega (arith, all);
  few_funcs = may.few_funcs;
  few_globals = may.few_globals;
}

-- a table is that of its draws
pub table_is : (config : Config) (spaces : Spaces) (bytes mid after : List ℕ) (table : TableType) (initial : Option (List ConstInstr))
    → spaces.entities.imported_globals ≡ length spaces.entities.globals.now
    → table_type_at config (drawn_over config (scope_of_spaces spaces)) bytes ≡ (table, mid)
    → table_init_at config (seen_by config spaces false) table.element_type mid ≡ Some (initial, after)
    → table_at config (scope_of_spaces spaces) bytes ≡ Ok ((table, initial), after)
unfolding table_at
table_is config spaces bytes mid after table initial all type_drawn init_drawn =
    rw (type_drawn, ← seen_by_table config spaces all, init_drawn) refl

-- there is nothing to choose from for the initialiser of a table
pub table_lacks : (config : Config) (spaces : Spaces) (bytes mid : List ℕ) (table : TableType) → spaces.entities.imported_globals
    ≡ length spaces.entities.globals.now
    → table_type_at config (drawn_over config (scope_of_spaces spaces)) bytes ≡ (table, mid)
    → table_init_at config (seen_by config spaces false) table.element_type mid ≡ None → table_at config (scope_of_spaces spaces) bytes
    ≡ Err EmptyChoose
unfolding table_at
table_lacks config spaces bytes mid table all type_drawn none = rw (type_drawn, ← seen_by_table config spaces all, none) refl

null_where : (b : Bool) → (b ≡ false → ⊥) → b ≡ true
null_where true not_so = refl
null_where false not_so = absurd (not_so refl)

on_where : (on : Bool) (P : Type 0) → (on ≡ true → P) → (on ≡ false → ⊥) → P
on_where true P holds never = holds refl
on_where false P holds never = absurd (never refl)

-- non-nullable elements require garbage collection
pub needs_gc : (config : Config) (element : RefType) → IsSanitized config → (config.non_nullable_enabled ≡ false → element.nullable ≡ true)
    → element.nullable ≡ false → config.gc_enabled ≡ true
needs_gc config element sanitized nullable not_null = on_where config.non_nullable_enabled (config.gc_enabled ≡ true) sanitized.non_nullable
    (λ off. let null = nullable off in cc)

pub table_fit : (config : Config) (spaces : Spaces) (table : TableType) (initial : Option (List ConstInstr))
    → spaces.entities.imported_globals ≡ length spaces.entities.globals.now
    → IsTableValid (features_of config) spaces.types.now.types table → IsTableWithin config table
    → HasGroundedElements config (drawn_over config (scope_of_spaces spaces)) table
    → (table.element_type.nullable ≡ false → IsSome initial)
    → IfSome initial (IsConstExpr (seen_by config spaces false) (Ref table.element_type)) → (IsSome initial → IsTrue config.gc_enabled)
    → (All HasNoFloat spaces.types.now.types → IfSome initial (All GivesNoFloat))
    → IsTableFit config (scope_of_spaces spaces) (table, initial)
table_fit config spaces table None all valid within grounded needed typed gc floats = record {
  valid = valid;
  within = within;
  grounded = grounded;
  initialised = null_where table.element_type.nullable (λ not_null. absurd (let some = needed not_null in cc));
  floats = λ calm. All-nil (All GivesNoFloat);
}
table_fit config spaces table (Some expression) all valid within grounded needed typed gc floats = record {
  valid = valid;
  within = within;
  grounded = grounded;
  initialised = (gc refl, rw (seen_by_table config spaces all) at typed);
  floats = λ calm. All-cons (All GivesNoFloat) expression [] (floats calm) (All-nil (All GivesNoFloat));
}

-- a property of the drawn tables holds for the added ones and, with the imported ones, for all
pub tables_added : (P : TableType → Type 0) {config : Config} {standing : InitialiserScope} {imported space : List TableType}
    {old initials : List (Option (List ConstInstr))}
    → ((one : Table) → IsTableFit config standing one → P one.0) → AreTablesDrawn config standing imported space old initials
    → AreAdded P imported space
tables_added P {config = config} {standing = standing} {imported = imported} fits so_far =
    let of_table = λ (one : Table). one.0 in
    record {
      more = map of_table so_far.drawn;
      parts = so_far.tables;
      each = All-map P of_table so_far.drawn (All-weaker (IsTableFit config standing) (λ (one : Table). P one.0) fits so_far.drawn
          so_far.fit);
    }

pub tables_all : (P : TableType → Type 0) {config : Config} {standing : InitialiserScope} {imported space : List TableType}
    {old initials : List (Option (List ConstInstr))}
    → ((one : Table) → IsTableFit config standing one → P one.0) → AreTablesDrawn config standing imported space old initials
    → All P imported → All P space
tables_all P fits so_far all = all_after P all (tables_added P fits so_far)

-- each initialiser is that of the table that was drawn with it
pub initialised_at : (P : TableType → Option (List ConstInstr) → Type 0) (drawn : List Table) → Each (λ (one : Table). P one.0 one.1) drawn
    → (place : ℕ) (initial : Option (List ConstInstr)) → slice_get (map (λ (one : Table). one.1) drawn) place ≡ Some initial
    → (table : TableType) × (slice_get (map (λ (one : Table). one.0) drawn) place ≡ Some table) × P table initial
initialised_at P [] each place initial at = cc
initialised_at P (one ∷ drawn) each zero initial at = let same : one.1 ≡ initial = cc in
    (one.0, refl, subst (λ (given : Option (List ConstInstr)). P one.0 given) same each.0)
initialised_at P (one ∷ drawn) each (suc place) initial at = initialised_at P drawn each.1 place initial at

-- if no type has a float, no constant is a float
pub tables_no_float : {config : Config} {standing : InitialiserScope} {imported space : List TableType}
    {old initials : List (Option (List ConstInstr))} → All HasNoFloat standing.types → All (All GivesNoFloat) (flat_map initial_of old)
    → AreTablesDrawn config standing imported space old initials → All (All GivesNoFloat) (flat_map initial_of initials)
tables_no_float {config = config} {standing = standing} {old = old} calm before so_far =
    let of_initial = λ (one : Table). one.1 in
    let calm_initial = λ (initial : Option (List ConstInstr)). All (All GivesNoFloat) (initial_of initial) in
    let drawn = map of_initial so_far.drawn in
    let calm_drawn = all_of_parts (All GivesNoFloat) initial_of drawn (recursion_from_All calm_initial drawn
    (All-map calm_initial of_initial so_far.drawn (All-weaker (IsTableFit config standing) (λ (one : Table). calm_initial one.1)
    (λ one fit. fit.floats calm) so_far.drawn so_far.fit))) in
    rw (so_far.initialisers, flat_map-append initial_of old drawn) (All-append (All GivesNoFloat) (flat_map initial_of old)
    (flat_map initial_of drawn) before calm_drawn)

-- the tables, and the bytes left
abbrev tables_alone : Result ((List TableType × List (Option (List ConstInstr))) × List ℕ) Error → Result (List TableType × List ℕ) Error
tables_alone read = read >>= (λ drawn. Ok (drawn.0.0, drawn.1))

-- after imported tables there are at least the minimum, and at most the maximum
pub tables_fill : (config : Config) (standing : InitialiserScope) (imported space : List TableType)
    (old initials : List (Option (List ConstInstr))) (start new : List ℕ) → config.min_tables ≤ config.max_tables
    → tables_at config standing imported old start ≡ Ok ((space, initials), new) → IsFilled config.min_tables config.max_tables imported
    space
unfolding tables_at
tables_fill config standing imported space old initials start new ordered exact =
    let of_table = λ (one : Table). one.0 in
    let Filled = λ (tables : List TableType). IsFilled config.min_tables config.max_tables imported tables in
    subst (λ (read : Result ((List TableType × List (Option (List ConstInstr))) × List ℕ) Error). IfOk read (λ drawn. Filled drawn.0.0))
    exact
    (following_so (λ (drawn : List Table × List ℕ). Filled (imported ++ map of_table drawn.0))
    (λ (drawn : (List TableType × List (Option (List ConstInstr))) × List ℕ). Filled drawn.0.0) _ _
    (parts_filled of_table (λ (made : List Table). table_at config standing) config.min_tables config.max_tables imported start ordered)
    (λ drawn filled. filled))

-- there are several tables only if several are allowed
pub several_tables : (config : Config) (imported space : List TableType) → IsSanitized config
    → (1 < length imported → config.reference_types_enabled ≡ true) → IsFilled config.min_tables config.max_tables imported space
    → 1 < length space
    → config.reference_types_enabled ≡ true
several_tables config imported space sanitized stood filled several = several_so config.reference_types_enabled config.max_tables
    (length imported) (length space) sanitized.one_table filled.within stood several

pub no_table_read : (config : Config) (standing : InitialiserScope) (imported : List TableType) (old : List (Option (List ConstInstr)))
    (piece after : List ℕ) → config.min_tables ≡ 0 → imported ≡ [] → SpellsNone config.max_tables piece
    → tables_at config standing imported old (piece ++ after) ≡ Ok (([], old), after)
unfolding tables_at
no_table_read config standing imported old piece after asked none spelled =
    let drawn = tried_none (λ (made : List Table). table_at config standing) config.min_tables config.max_tables (length imported) piece
    after asked (rw none refl) spelled in
    rw (drawn, none, append-nil old) refl

-- a piece that spells that there is no table is taken
pub no_table_taken : (config : Config) (standing : InitialiserScope) (imported space : List TableType)
    (old initials : List (Option (List ConstInstr))) (start new : List ℕ) → config.min_tables ≡ 0 → imported ≡ []
    → tables_at config standing imported old start ≡ Ok ((space, initials), new) → Takes (SpellsEmpty (SpellsNone config.max_tables)) start
    space new
no_table_taken config standing imported space old initials start new asked none exact =
    takes_if_read (λ bytes. tables_alone (tables_at config standing imported old bytes))
    (λ value piece after h. rw (no_table_read config standing imported old piece after asked none h.spelled, h.none) refl)
    (ap tables_alone exact)
