-- The definitions that the bytes produce, by the draws of each kind of items.
use Rattle.smith_draw_definitions.proofs.Common.{Config, ConstInstr, EntitySpaces, Error, GlobalType, length, List, MemoryType, refl}
use Rattle.smith_draw_definitions.proofs.Common.{SubType, TableType, ℕ, ◌-◌, ◌≡◌}
use Rattle.std.proofs.Common.{Err, Ok, Option}
use Rattle.smith_draw_definitions.specs.Definitions.{InitialiserScope, scope_among, tags_at, funcs_at, tables_at, memories_at, globals_at}
use Rattle.smith_draw_definitions.specs.Definitions.{definitions_at, defined_in}
use Rattle.smith_draw_definitions.specs.declared.definitions.Definitions.{Definitions}

module _ (config : Config) (types : List SubType) (before : EntitySpaces) (so_far : Definitions) (bytes : List ℕ) where
  -- tags were refused
  pub tags_refused : {e : Error} → tags_at config types before.tags bytes ≡ Err e → definitions_at config types before so_far bytes ≡ Err e
  unfolding definitions_at
  tags_refused refused = rw refused refl

  -- functions were refused after tags
  pub funcs_refused : {tags mid : List ℕ} {e : Error} → tags_at config types before.tags bytes ≡ Ok (tags, mid)
      → funcs_at config types before.funcs mid ≡ Err e → definitions_at config types before so_far bytes ≡ Err e
  unfolding definitions_at
  funcs_refused drawn refused = rw (drawn, refused) refl

  -- what initialisers may refer to after these functions
  abbrev scope_after : List ℕ → InitialiserScope
  scope_after funcs = scope_among types funcs (length before.funcs - so_far.num_funcs) (length before.globals - length so_far.globals)
      before.globals

  -- tables were refused after functions
  pub tables_not_drawn : {tags funcs first second : List ℕ} {e : Error}
      → tags_at config types before.tags bytes ≡ Ok (tags, first) → funcs_at config types before.funcs first ≡ Ok (funcs, second)
      → tables_at config (scope_after funcs) before.tables so_far.tables second ≡ Err e
      → definitions_at config types before so_far bytes ≡ Err e
  unfolding definitions_at
  tables_not_drawn of_tags of_funcs refused = rw (of_tags, of_funcs, refused) refl

  -- globals were refused after memories
  pub globals_not_drawn : {tags funcs first second third fourth : List ℕ} {tables : List TableType}
      {initials : List (Option (List ConstInstr))} {memories : List MemoryType} {e : Error}
      → tags_at config types before.tags bytes ≡ Ok (tags, first) → funcs_at config types before.funcs first ≡ Ok (funcs, second)
      → tables_at config (scope_after funcs) before.tables so_far.tables second ≡ Ok ((tables, initials), third)
      → memories_at config before.memories third ≡ (memories, fourth) → globals_at config (scope_after funcs) before.globals so_far.globals
      fourth ≡ Err e
      → definitions_at config types before so_far bytes ≡ Err e
  unfolding definitions_at
  globals_not_drawn of_tags of_funcs of_tables of_memories refused = rw (of_tags, of_funcs, of_tables, of_memories, refused) refl

  -- items of all kinds were drawn
  pub definitions_drawn : {tags funcs first second third fourth last : List ℕ} {tables : List TableType}
      {initials : List (Option (List ConstInstr))} {memories : List MemoryType} {globals : List GlobalType}
      {constants : List (ℕ × List ConstInstr)}
      → tags_at config types before.tags bytes ≡ Ok (tags, first) → funcs_at config types before.funcs first ≡ Ok (funcs, second)
      → tables_at config (scope_after funcs) before.tables so_far.tables second ≡ Ok ((tables, initials), third)
      → memories_at config before.memories third ≡ (memories, fourth) → globals_at config (scope_after funcs) before.globals so_far.globals
      fourth ≡ Ok ((globals, constants), last)
      → let spaces : EntitySpaces = record { tags = tags; funcs = funcs; tables = tables; memories = memories; globals = globals } in
      definitions_at config types before so_far bytes ≡ Ok ((spaces, defined_in before so_far spaces initials constants), last)
  unfolding definitions_at
  definitions_drawn of_tags of_funcs of_tables of_memories of_globals = rw (of_tags, of_funcs, of_tables, of_memories, of_globals) refl
