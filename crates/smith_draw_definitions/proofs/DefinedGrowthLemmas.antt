-- Definitions after existing items are, together with those, definitions after the same imports.
use Rattle.smith_draw_definitions.proofs.Common.{[], All, All-nil, All-weaker, ap, append_assoc, AreEntitiesValid, AreSpacesGrown, arith}
use Rattle.smith_draw_definitions.proofs.Common.{Config, ConstInstr, Context, EntitySpaces, Extends, features_of, GlobalType, GroupedTypes}
use Rattle.smith_draw_definitions.proofs.Common.{inl, inr, IsContextGrown, IsSanitized, length, length-append, length-map, List, map}
use Rattle.smith_draw_definitions.proofs.Common.{Option, refl, slice_get, Some, subst, SubType, suc, sym, TableType, zero, ℕ, ◌++◌, ◌+◌}
use Rattle.smith_draw_definitions.proofs.Common.{◌-◌, ◌<◌, ◌∙◌, ◌∷◌, ◌≡◌, ◌≤◌}
use Rattle.std.proofs.Common.{◌^◌}
use Rattle.std.specs.Prelude.{take, ◌⊎◌}
use Rattle.std.proofs.Math.Seq.{take-append_seam}
use Rattle.std.proofs.lemmas.List.Elements.{recursion_from_All}
use Rattle.smith_types.specs.Entities.{AreCountsEnabled}
use Rattle.smith_types.specs.Imports.{Defines}
use Rattle.smith_config.specs.Faults.{Passes}
use Rattle.smith_types.proofs.ListLemmas.{slice_get-after}
use Rattle.smith_types.specs.Floats.{HasNoFloatValue}
use Rattle.smith_config.specs.Granted.{HasGroundedElements, HasGroundedValue}
use Rattle.smith_draw_definitions.specs.Defined.{nothing_defined, AreAdded, HasRoom, AreWithin, MayDefine, StandsAfter, AreFilled}
use Rattle.smith_draw_definitions.specs.Defined.{AreDefinedMore, AreGlobalsDefined, HaveNoFloats, drawn_over, scope_in}
use Rattle.smith_draw_definitions.specs.DefinedTables.{IsTableFit, AreTablesDrawn}
use Rattle.smith_draw_definitions.specs.Definitions.{InitialiserScope, Table, scope_over, scope_among, context_at, table_scope}
use Rattle.smith_module_rules.specs.Module.{IsTableInitialised}
use Rattle.smith_draw_definitions.specs.declared.definitions.Definitions.{Definitions}
use Rattle.smith_draw_definitions.proofs.ExtensionLemmas.{all_kept}
use Rattle.smith_draw_definitions.proofs.DefinedTableLemmas.{initialised_at, tables_added}
use Rattle.smith_module_rules.proofs.InitialLemmas.{IsTableInitialised-grown}
use Rattle.smith_draw_definitions.proofs.StandsAfterLemmas.{IsTablePlaced, defined_end, left_over, table_kept, global_kept}

-- the types, functions and globals that initialisers refer to after functions are defined
abbrev pub standing_more : List SubType → EntitySpaces → Definitions → EntitySpaces → InitialiserScope
standing_more types before so_far later = scope_among types later.funcs (length before.funcs - so_far.num_funcs)
    (length before.globals - length so_far.globals) before.globals

-- the additions of the steps of definitions to the existing items
pub record AddsTo (config : Config) (space : GroupedTypes) (before : EntitySpaces) (so_far : Definitions) (later : EntitySpaces)
    (defined : Definitions) : Type 0 where
  pub filled : AreFilled config before later
  pub entities : AreEntitiesValid (features_of config) space.types later
  pub counts : AreCountsEnabled (features_of config) later
  pub tables : AreTablesDrawn config (standing_more space.types before so_far later) before.tables later.tables so_far.tables defined.tables
  pub globals : AreGlobalsDefined config (standing_more space.types before so_far later) before.globals so_far.globals
      → AreGlobalsDefined config (standing_more space.types before so_far later) later.globals defined.globals
  pub grounded : AreAdded (HasGroundedValue config (drawn_over config (standing_more space.types before so_far later))) before.globals
      later.globals
  pub num_tags : defined.num_tags ≡ so_far.num_tags + (length later.tags - length before.tags)
  pub num_funcs : defined.num_funcs ≡ so_far.num_funcs + (length later.funcs - length before.funcs)
  pub num_memories : defined.num_memories ≡ so_far.num_memories + (length later.memories - length before.memories)

-- index spaces grow as they are filled
pub filled_grown : {config : Config} {before later : EntitySpaces} → AreFilled config before later → AreSpacesGrown before later
filled_grown filled = record {
  tags = filled.tags.extends;
  funcs = filled.funcs.extends;
  tables = filled.tables.extends;
  memories = filled.memories.extends;
  globals = filled.globals.extends;
}

-- there are no more definitions than items
pub stands_within : {config : Config} {imported : EntitySpaces} {space : GroupedTypes} {spaces : EntitySpaces} {defined : Definitions}
    → StandsAfter config imported space spaces defined → AreWithin spaces defined
stands_within stands = record {
  tags = omega (arith, defined_end stands.tags);
  funcs = omega (arith, defined_end stands.funcs);
  memories = omega (arith, defined_end stands.memories);
  globals = omega (arith, defined_end stands.globals);
}

-- an item of two lists together is one of the first, or one of the second at its place there
item_of : {A : Type 0} (xs ys : List A) (place : ℕ) (x : A) → slice_get (xs ++ ys) place ≡ Some x → (slice_get xs place ≡ Some x)
    ⊎ ((i : ℕ) × (place ≡ length xs + i) × (slice_get ys i ≡ Some x))
item_of {A = A} [] ys place x at = let is : place ≡ length {A = A} [] + place = omega arith in inr (place, is, at)
item_of (y ∷ xs) ys zero x at = inl at
item_of (y ∷ xs) ys (suc place) x at =
    elim (item_of xs ys place x at) [ inl old ↦ inl old | inr (i, is, new) ↦ inr (i, omega (arith, is), new) ]

-- items that are defined after imported ones, with more after them
grown_by : {A : Type 0} {imports before later : List A} {count more : ℕ} → Defines imports count before → Extends before later
    → more ≡ count + (length later - length before) → Defines imports more later
grown_by {imports = imports} {before = before} h extends counted =
    let whole = ap length extends.parts ∙ length-append before extends.more in
    record {
      defined = h.defined ++ extends.more;
      count_is = omega (arith, length-append h.defined extends.more, h.count_is, whole, counted);
      parts = extends.parts ∙ (ap (λ (xs : List _). xs ++ extends.more) h.parts ∙ append_assoc imports h.defined extends.more);
    }

-- each drawn table has an initialiser, or none
tables_counted : {config : Config} {standing : InitialiserScope} {before later : List TableType}
    {old initials : List (Option (List ConstInstr))} → AreTablesDrawn config standing before later old initials
    → length initials ≡ length old + (length later - length before)
tables_counted {before = before} {old = old} so_far =
    let tables = map (λ (one : Table). one.0) so_far.drawn in
    let initials = map (λ (one : Table). one.1) so_far.drawn in
    omega (
      arith,
      ap length so_far.tables ∙ length-append before tables,
      ap length so_far.initialisers ∙ length-append old initials,
      length-map so_far.drawn (λ (one : Table). one.0),
      length-map so_far.drawn (λ (one : Table). one.1),
    )

module _ (config : Config) (imported : EntitySpaces) (space : GroupedTypes) (before later : EntitySpaces) (so_far defined : Definitions)
    (adds : AddsTo config space before so_far later defined) (now : StandsAfter config imported space before so_far) where
  abbrev standing : InitialiserScope
  standing = scope_in space.types imported later

  -- the entities that are not defined are imported
  standing_is : standing_more space.types before so_far later ≡ standing
  standing_is =
      let seam = take-append_seam imported.globals now.globals.defined in
      let globals : take (length before.globals - length so_far.globals) before.globals ≡ imported.globals =
      ap (λ (n : ℕ). take n before.globals) (left_over now.globals)
      ∙ (ap (λ (xs : List GlobalType). take (length imported.globals) xs) now.globals.parts ∙ seam) in
      λ i. scope_over space.types later.funcs (left_over now.funcs i) (globals i)

  grown : AreSpacesGrown before later
  grown = filled_grown adds.filled

  drawn : AreTablesDrawn config standing before.tables later.tables so_far.tables defined.tables
  drawn = subst (λ (s : InitialiserScope). AreTablesDrawn config s before.tables later.tables so_far.tables defined.tables) standing_is
      adds.tables

  -- the globals so far are valid with the functions that were added
  globals_stood : AreGlobalsDefined config standing before.globals so_far.globals
  globals_stood =
      let mid : EntitySpaces = record before { funcs = later.funcs } in
      let beside : AreSpacesGrown before mid = record {
        tags = all_kept before.tags;
        funcs = adds.filled.funcs.extends;
        tables = all_kept before.tables;
        memories = all_kept before.memories;
        globals = all_kept before.globals;
      } in
      record {
        count = defined_end now.globals;
        each = λ place index initial at. global_kept config imported space.types space.types before mid (all_kept space.types) beside place
            index initial (now.each_global place index initial at);
      }

  globals_stand : AreGlobalsDefined config standing later.globals defined.globals
  globals_stand =
      subst (λ (s : InitialiserScope). AreGlobalsDefined config s later.globals defined.globals) standing_is
      (adds.globals (subst (λ (s : InitialiserScope). AreGlobalsDefined config s before.globals so_far.globals) (sym standing_is)
      globals_stood))

  globals_after : Defines imported.globals (length defined.globals) later.globals
  globals_after =
      let whole = ap length grown.globals.parts ∙ length-append before.globals grown.globals.more in
      grown_by now.globals grown.globals (omega (arith, whole, globals_stand.count, defined_end now.globals))

  -- the scope of a table's initialiser grows by the defined globals
  table_scope_grown : IsContextGrown (table_scope config standing) (context_at config standing later.globals (length imported.globals))
  table_scope_grown = record {
    features = refl;
    types = all_kept space.types;
    funcs = all_kept later.funcs;
    globals = record { more = globals_after.defined; parts = globals_after.parts };
    imported_funcs = refl;
    imported_globals = refl;
    visible = omega arith;
  }

  table_stands : (place : ℕ) (initial : Option (List ConstInstr)) → slice_get defined.tables place ≡ Some initial
      → IsTablePlaced config imported space.types later place initial
  table_stands place initial at = elim (item_of so_far.tables (map (λ (one : Table). one.1) drawn.drawn) place initial
      (rw drawn.initialisers at at)) [
        | inl was ↦ table_kept config imported space.types space.types before later (all_kept space.types) grown place initial
            (now.each_table place initial was)
        | inr (i, is, new) ↦
            let scope = table_scope config standing in
            let all = All-weaker (IsTableFit config standing) (λ (one : Table). IsTableInitialised scope one.0 one.1)
            (λ one fit. fit.initialised) drawn.drawn drawn.fit in
            let (table, there, initialised) = initialised_at (IsTableInitialised scope) drawn.drawn (recursion_from_All _ drawn.drawn all) i
            initial new in
            let end : length imported.tables + place ≡ length before.tables + i = omega (arith, is, defined_end now.tables) in
            let following = slice_get-after before.tables (map (λ (one : Table). one.0) drawn.drawn) i ∙ there in (
              table,
              ap (λ (n : ℕ). slice_get later.tables n) end ∙ (ap (λ (all : List TableType). slice_get all (length before.tables + i))
                  drawn.tables ∙ following),
              IsTableInitialised-grown scope (context_at config standing later.globals (length imported.globals)) table_scope_grown table
                  initial initialised,
            )
      ]

  pub stands_later : StandsAfter config imported space later defined
  stands_later = record {
    types = now.types;
    entities = adds.entities;
    counts = adds.counts;
    tags = grown_by now.tags grown.tags adds.num_tags;
    funcs = grown_by now.funcs grown.funcs adds.num_funcs;
    tables = grown_by now.tables grown.tables (tables_counted drawn);
    memories = grown_by now.memories grown.memories adds.num_memories;
    globals = globals_after;
    each_table = table_stands;
    each_global = globals_stand.each;
  }

-- as many functions are imported after more are defined
pub still_imported : (before later : List ℕ) (old new : ℕ) → Extends before later → new ≡ old + (length later - length before)
    → length before - old ≡ length later - new
still_imported before later old new extends counted = let whole = ap length extends.parts ∙ length-append before extends.more in
    omega (arith, whole, counted)

pub defined_more : (config : Config) (space : GroupedTypes) (before later : EntitySpaces) (so_far defined : Definitions)
    → AddsTo config space before so_far later defined → AreDefinedMore config space before so_far later defined
defined_more config space before later so_far defined adds =
    let drawn : ℕ → Context = λ imported. record {
      features = features_of config;
      types = space.types;
      funcs = later.funcs;
      globals = [];
      imported_funcs = imported;
      imported_globals = 0;
      visible = 0;
    } in
    let same = still_imported before.funcs later.funcs so_far.num_funcs defined.num_funcs adds.filled.funcs.extends adds.num_funcs in
    record {
      filled = adds.filled;
      grounded_tables = subst (λ (imported : ℕ). AreAdded (HasGroundedElements config (drawn imported)) before.tables later.tables) same
          (tables_added (HasGroundedElements config (drawn (length before.funcs - so_far.num_funcs))) (λ one fit. fit.grounded)
          adds.tables);
      grounded_globals = subst (λ (imported : ℕ). AreAdded (HasGroundedValue config (drawn imported)) before.globals later.globals) same
          adds.grounded;
      stands = λ imported now. stands_later config imported space before later so_far defined adds now;
    }

-- items may be defined after the entities that follow imports
pub may_define_after : {config : Config} {imported : EntitySpaces} {space : GroupedTypes} {spaces : EntitySpaces} {defined : Definitions}
    → Passes config → IsSanitized config → config.min_types ≤ length space.types → length space.types < 2 ^ 32 → HasRoom spaces 0
    → StandsAfter config imported space spaces defined → MayDefine config space spaces defined
may_define_after passes sanitized least few room stands = record {
  passes = passes;
  sanitized = sanitized;
  valid = stands.types;
  least = least;
  few = few;
  entities = stands.entities;
  counts = stands.counts;
  room = room;
  within = stands_within stands;
}

-- no constant is a float if nothing is defined
pub none_float : (spaces : EntitySpaces) → All HasNoFloatValue spaces.globals → HaveNoFloats spaces nothing_defined
none_float spaces calm = record { globals = calm; tables = All-nil _; initials = All-nil _ }
