-- The iterations of the loop that defines tables.
use Rattle.smith_draw_definitions.proofs.Common.{[], All-nil, All-push, append-nil, append_assoc, Bool, bool_at, Config, ConstInstr, Err}
use Rattle.smith_draw_definitions.proofs.Common.{Error, false, goes_at, if◌then◌else◌, KeepsPieces, length, List, map, map-append, nat_lt}
use Rattle.smith_draw_definitions.proofs.Common.{Ok, Option, refl, TableType, true, ℕ, ◌&&◌, ◌++◌, ◌+◌, ◌-◌, ◌<◌, ◌∷◌, ◌≡◌, ◌≤◌}
use Rattle.smith_draw_definitions.specs.DefinedTables.{IsTableFit, AreTablesDrawn}
use Rattle.smith_draw_definitions.specs.Definitions.{InitialiserScope, Table, table_at, tables_at}
use Rattle.smith_draw_definitions.proofs.DefinedLoop.{IsTried, tried_start, tried_go, tried_refused, tried_stop, tried_full}

-- the tables that are defined so far, and their initialisers
pub record IsDefiningTables (config : Config) (standing : InitialiserScope) (imported space : List TableType)
    (old initials : List (Option (List ConstInstr))) (n : ℕ) (start bytes : List ℕ) : Type 0 where
  pub so_far : AreTablesDrawn config standing imported space old initials
  pub defining : IsTried (λ _. table_at config standing) config.min_tables config.max_tables (length imported) n so_far.drawn start bytes

-- none is defined yet
pub tables_start : (config : Config) (standing : InitialiserScope) (imported : List TableType) (old : List (Option (List ConstInstr)))
    (start : List ℕ) → IsDefiningTables config standing imported imported old old 0 start start
tables_start config standing imported old start = record {
  so_far = record {
    drawn = [];
    tables = rw append-nil refl;
    initialisers = rw append-nil refl;
    fit = All-nil (IsTableFit config standing);
  };
  defining = tried_start (λ _. table_at config standing) config.min_tables config.max_tables (length imported) start;
}

module _ {config : Config} {standing : InitialiserScope} {imported space : List TableType} {old initials : List (Option (List ConstInstr))}
    {n : ℕ} {start bytes : List ℕ} where
  -- one more was defined
  pub tables_go : {mid after : List ℕ} {b : Bool} {one : Table} {more : List TableType} {longer : List (Option (List ConstInstr))}
      → IsDefiningTables config standing imported space old initials n start bytes
      → n < config.max_tables - length imported → goes_at (nat_lt n (config.min_tables - length imported)) bytes ≡ (b, mid) → b ≡ true
      → table_at config standing mid ≡ Ok (one, after) → IsTableFit config standing one → more ≡ space ++ one.0 ∷ []
      → longer ≡ initials ++ one.1 ∷ []
      → KeepsPieces bytes mid → KeepsPieces mid after → IsDefiningTables config standing imported more old longer (n + 1) start after
  tables_go {one = one} now lt go on drawn fit next last p q =
      let made = now.so_far.drawn in
      let of_table = λ (each : Table). each.0 in
      let of_initial = λ (each : Table). each.1 in
      record {
        so_far = record {
          drawn = made ++ one ∷ [];
          tables = rw (next, now.so_far.tables, map-append of_table made (one ∷ []))
              (append_assoc imported (map of_table made) (one.0 ∷ []));
          initialisers = rw (last, now.so_far.initialisers, map-append of_initial made (one ∷ []))
              (append_assoc old (map of_initial made) (one.1 ∷ []));
          fit = All-push (IsTableFit config standing) made one now.so_far.fit fit;
        };
        defining = tried_go now.defining lt go on drawn refl p q;
      }

  -- a table was refused
  pub tables_refused : {mid : List ℕ} {b : Bool} {e : Error}
      → IsDefiningTables config standing imported space old initials n start bytes
      → n < config.max_tables - length imported → goes_at (nat_lt n (config.min_tables - length imported)) bytes ≡ (b, mid) → b ≡ true
      → table_at config standing mid ≡ Err e → tables_at config standing imported old start ≡ Err e
  unfolding tables_at
  tables_refused now lt go on refused = rw (tried_refused now.defining lt go on refused) refl

  -- the drawn bool ends the tables, though more are allowed
  pub tables_stop : {b : Bool} {after : List ℕ}
      → IsDefiningTables config standing imported space old initials n start bytes
      → n < config.max_tables - length imported → goes_at (nat_lt n (config.min_tables - length imported)) bytes ≡ (b, after) → b ≡ false
      → tables_at config standing imported old start ≡ Ok ((space, initials), after)
  unfolding tables_at
  tables_stop now lt go off = rw (tried_stop now.defining lt go off, now.so_far.tables, now.so_far.initialisers) refl

  -- no more are allowed
  pub tables_full : {after : List ℕ}
      → IsDefiningTables config standing imported space old initials n start bytes
      → config.max_tables - length imported ≤ n
      → after ≡ (if nat_lt 0 (length imported) && nat_lt 0 config.max_tables then (bool_at bytes).1 else bytes)
      → tables_at config standing imported old start ≡ Ok ((space, initials), after)
  unfolding tables_at
  tables_full now le is = rw (tried_full now.defining le is, now.so_far.tables, now.so_far.initialisers) refl
