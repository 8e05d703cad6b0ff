-- The kinds of element segments over the offered tables: as more tables are offered, and the kind
-- at a place.
use Rattle.smith_draw_contents.proofs.Common.{[], All, All-head, All-nil, All-push, ap, append-nil, append_assoc, arith, at_drop_all}
use Rattle.smith_draw_contents.proofs.Common.{at_drop_more, Bool, cond, Config, drop, false, get_or, get_or_from_slice_get, KeepsPieces}
use Rattle.smith_draw_contents.proofs.Common.{length, length-append, List, map, map-append, None, refl, slice_get-get_or, Some, suc, sym}
use Rattle.smith_draw_contents.proofs.Common.{TableType, true, zero, ℕ, ◌&&◌, ◌++◌, ◌+◌, ◌-◌, ◌<◌, ◌∙◌, ◌∷◌, ◌≡◌, ◌≤◌}
use Rattle.std.proofs.Common.{add-one}
use Rattle.std.proofs.Math.ListN.{get_or-append}
use Rattle.std.proofs.lemmas.Bool.{ne_eqb}
use Rattle.std.proofs.lemmas.List.{get_or-append-add, get_or-map, length-map}
use Rattle.smith_draw_contents.specs.ElementSegments.{KindChoice, is_funcref, is_offered_at, with_unnamed, with_named, table_kinds_at}
use Rattle.smith_draw_contents.specs.ElementSegments.{kept_kinds, element_kinds_at}
use Rattle.smith_draw_contents.specs.OfferedIndices.{Indices}
use Rattle.smith_draw_contents.specs.OfferedKinds.{no_table, table_at, begin_first, unnamed_kinds, named_kinds, kinds_over}
use Rattle.smith_draw_contents.specs.declared.element_kinds.KindChoice.TheVariants as choice

named_more : (bulk : Bool) (front : List KindChoice) (kind : ℕ → KindChoice) (indices : List ℕ) (index : ℕ) (one : KindChoice)
    → kind index ≡ one
    → cond bulk ((front ++ cond bulk (map kind indices) []) ++ one ∷ []) (front ++ cond bulk (map kind indices) []) ≡ front ++ cond bulk
    (map kind (indices ++ index ∷ [])) []
named_more true front kind indices index one is = rw (← is, map-append kind indices (index ∷ []))
    (append_assoc front (map kind indices) (kind index ∷ []))
named_more false front kind indices index one is = refl

first_named : (bulk : Bool) (front : List KindChoice) (kind : ℕ → KindChoice) → front ++ cond bulk (map kind []) [] ≡ front
first_named true front kind = append-nil front
first_named false front kind = append-nil front

unnamed_first : (b : Bool) (kept : List KindChoice) (one : KindChoice) → cond b ((kept ++ []) ++ one ∷ []) (kept ++ []) ≡ kept ++ cond b
    (one ∷ []) []
unnamed_first true kept one = rw (append-nil kept) refl
unnamed_first false kept one = refl

module _ (config : Config) (tables : List TableType) where
  -- the first table is offered without its index only before all others
  unnamed_more : (indices : List ℕ) (index : ℕ) (table : TableType) → length indices ≤ index → table_at tables index ≡ table
      → with_unnamed index table (kinds_over config tables indices) ≡ kept_kinds config ++ unnamed_kinds tables (indices ++ index ∷ [])
      ++ named_kinds config tables indices
  unnamed_more [] zero table few at =
      let kept = kept_kinds config in
      let kind = λ (n : ℕ). choice.Active (Some n) (table_at tables n) in
      rw (
        at,
        first_named config.bulk_memory_enabled (kept ++ []) kind,
        first_named config.bulk_memory_enabled
            (kept ++ cond (is_funcref table.element_type) (choice.Active None table ∷ []) []) kind,
      )
      (unnamed_first (is_funcref table.element_type) kept (choice.Active None table))
  unnamed_more [] (suc n) table few at = rw (ne_eqb (suc n) 0 (λ never. omega (arith, never))) refl
  unnamed_more (zero ∷ indices) index table few at = rw (ne_eqb index 0 (λ never. omega (arith, never))) refl
  unnamed_more (suc i ∷ indices) index table few at = rw (ne_eqb index 0 (λ never. omega (arith, never))) refl

  kind_offered : (indices : List ℕ) (index : ℕ) (table : TableType) → length indices ≤ index → table_at tables index ≡ table
      → with_named config index table (with_unnamed index table (kinds_over config tables indices)) ≡ kinds_over config tables
      (indices ++ index ∷ [])
  kind_offered indices index table few at =
      rw (unnamed_more indices index table few at)
      (named_more config.bulk_memory_enabled (kept_kinds config ++ unnamed_kinds tables (indices ++ index ∷ []))
      (λ index. choice.Active (Some index) (table_at tables index)) indices index (choice.Active (Some index) table)
      (ap (λ (one : TableType). choice.Active (Some index) one) at))

-- the tables before an index were visited, and the draws from there on complete the kinds
pub record AreTablesDrawn (tables : List TableType) (index : ℕ) (drawn : Indices) (start bytes : List ℕ) : Type 0 where
  pub end : drawn.end ≡ index
  pub few : length drawn.offered ≤ index
  pub within : All (λ one. one < length tables) drawn.offered
  pub so_far : (config : Config) → table_kinds_at config (kinds_over config tables drawn.offered) index (drop index tables) bytes
      ≡ element_kinds_at config tables start
  pub left : KeepsPieces start bytes

-- the kinds after a table for which it is known whether it is offered
abbrev following : Config → List KindChoice → ℕ → List TableType → TableType → Bool × List ℕ → List KindChoice × List ℕ
following config kinds index rest table offered =
    table_kinds_at config (cond offered.0 (with_named config index table (with_unnamed index table kinds)) kinds) (suc index) rest offered.1

module _ {tables : List TableType} {index : ℕ} {drawn : Indices} {start bytes after : List ℕ} {table : TableType} {b : Bool} where
  one_after : AreTablesDrawn tables index drawn start bytes → index < length tables → table ≡ get_or tables index table
      → is_offered_at table bytes ≡ (b, after) → (config : Config)
      → following config (kinds_over config tables drawn.offered) index (drop (index + 1) tables) table (b, after) ≡ element_kinds_at config
      tables start
  unfolding table_kinds_at
  one_after now inside at draws config =
      let kinds = kinds_over config tables drawn.offered in
      let rest = drop (index + 1) tables in
      let here = at_drop_more (λ (left : List TableType). table_kinds_at config kinds index left bytes) tables index table inside in
      let same = ap (λ (one : TableType). table_kinds_at config kinds index (one ∷ rest) bytes) at in
      ap (following config kinds index rest table) (sym draws) ∙ (same ∙ (sym here ∙ now.so_far config))

  -- a table is offered
  pub tables_more : {more : Indices} → AreTablesDrawn tables index drawn start bytes → index < length tables
      → table ≡ get_or tables index table → is_offered_at table bytes ≡ (b, after) → b ≡ true
      → more ≡ record { end = drawn.end + 1; offered = drawn.offered ++ drawn.end ∷ [] } → KeepsPieces bytes after
      → AreTablesDrawn tables (index + 1) more start after
  tables_more now inside at draws on grown kept =
      let found : table_at tables index ≡ table = get_or_from_slice_get tables index table no_table
      (slice_get-get_or tables index table inside ∙ ap (λ (one : TableType). Some one) (sym at)) in
      rw (grown, now.end) (record {
        end = refl;
        few = omega (arith, now.few, length-append drawn.offered (index ∷ []));
        within = All-push (λ one. one < length tables) drawn.offered index now.within inside;
        so_far = λ config.
            let kinds = kinds_over config tables drawn.offered in
            let turn = rw on at (one_after now inside at draws config) in
            rw (← kind_offered config tables drawn.offered index table now.few found) (rw (← add-one index) at turn);
        left = λ whole h. kept whole (now.left whole h);
      })

  -- a table is not offered
  pub tables_skip : {more : Indices} → AreTablesDrawn tables index drawn start bytes → index < length tables
      → table ≡ get_or tables index table → is_offered_at table bytes ≡ (b, after) → b ≡ false
      → more ≡ record { end = drawn.end + 1; offered = drawn.offered } → KeepsPieces bytes after
      → AreTablesDrawn tables (index + 1) more start after
  tables_skip now inside at draws off grown kept =
      rw (grown, now.end) (record {
        end = refl;
        few = omega (arith, now.few);
        within = now.within;
        so_far = λ config. let turn = rw off at (one_after now inside at draws config) in rw (← add-one index) at turn;
        left = λ whole h. kept whole (now.left whole h);
      })

-- all tables were visited
pub tables_done : {tables : List TableType} {index : ℕ} {drawn : Indices} {start bytes : List ℕ}
    → AreTablesDrawn tables index drawn start bytes → length tables ≤ index
    → (config : Config) → element_kinds_at config tables start ≡ (kinds_over config tables drawn.offered, bytes)
unfolding table_kinds_at
tables_done {tables = tables} {index = index} {drawn = drawn} {bytes = bytes} now done config =
    sym (now.so_far config) ∙ at_drop_all (λ (rest : List TableType). table_kinds_at config (kinds_over config tables drawn.offered) index
    rest bytes) tables index done

-- before the first table
pub tables_begin : (tables : List TableType) (drawn : Indices) (bytes : List ℕ) → drawn ≡ record { end = 0; offered = [] }
    → AreTablesDrawn tables 0 drawn bytes bytes
unfolding element_kinds_at
tables_begin tables drawn bytes none = rw none (record {
  end = refl;
  few = omega arith;
  within = All-nil (λ one. one < length tables);
  so_far = λ config. ap (λ (kinds : List KindChoice). table_kinds_at config kinds 0 tables bytes)
      (first_named config.bulk_memory_enabled (kept_kinds config ++ []) (λ index. choice.Active (Some index) (table_at tables index))
      ∙ append-nil (kept_kinds config));
  left = λ whole h. h;
})

-- the item at a place in the second or the third of three lists
in_second : {A : Type 0} (xs ys zs : List A) (place : ℕ) (d : A) → length xs ≤ place → place < length xs + length ys
    → get_or (xs ++ ys ++ zs) place d ≡ get_or ys (place - length xs) d
in_second xs ys zs place d from before =
    let same : place ≡ length xs + (place - length xs) = omega arith in
    get_or-append (xs ++ ys) zs d place (omega (arith, length-append xs ys))
    ∙ (ap (λ (n : ℕ). get_or (xs ++ ys) n d) same ∙ get_or-append-add xs ys (place - length xs) d)

in_third : {A : Type 0} (xs ys zs : List A) (place : ℕ) (d : A) → length xs + length ys ≤ place → get_or (xs ++ ys ++ zs) place d
    ≡ get_or zs (place - length xs - length ys) d
in_third xs ys zs place d from =
    let same : place ≡ length (xs ++ ys) + (place - length xs - length ys) = omega (arith, length-append xs ys) in
    ap (λ (n : ℕ). get_or (xs ++ ys ++ zs) n d) same ∙ get_or-append-add (xs ++ ys) zs (place - length xs - length ys) d

one_alone : {A : Type 0} (b : Bool) (x d : A) (n : ℕ) → n < length (cond b (x ∷ []) []) → get_or (cond b (x ∷ []) []) n d ≡ x
one_alone true x d zero inside = refl
one_alone true x d (suc n) inside = absurd (omega arith)
one_alone false x d n inside = absurd (omega arith)

each_named : {A : Type 0} (b : Bool) (f : ℕ → A) (indices : List ℕ) (n : ℕ) (d : A) → n < length (cond b (map f indices) [])
    → get_or (cond b (map f indices) []) n d ≡ f (get_or indices n 0)
each_named true f indices n d inside = get_or-map f indices n 0 d (omega (arith, length-map indices f))
each_named false f indices n d inside = absurd (omega arith)

first_stands : (tables : List TableType) (indices : List ℕ) → All (λ one. one < length tables) indices
    → 0 < length (unnamed_kinds tables indices) → 0 < length tables
first_stands tables [] within some = absurd (omega arith)
first_stands tables (i ∷ indices) within some = omega (arith, All-head (λ one. one < length tables) i indices within)

module _ (config : Config) (tables : List TableType) (indices : List ℕ) (kept unnamed place : ℕ)
    (is_kept : kept ≡ length (kept_kinds config)) (is_unnamed : unnamed ≡ length (unnamed_kinds tables indices)) where
  -- after the kinds without a table, the first table without its index
  pub unnamed_found : (other : TableType) → All (λ one. one < length tables) indices → kept ≤ place → place < kept + unnamed
      → choice.Active None (get_or tables 0 other) ≡ get_or (kinds_over config tables indices) place choice.Passive
  unnamed_found other within from before =
      let at : length (kept_kinds config) ≤ place = omega (arith, is_kept, from) in
      let inside : place < length (kept_kinds config) + length (unnamed_kinds tables indices) =
      omega (arith, is_kept, is_unnamed, before) in
      let stands = first_stands tables indices within (omega (arith, at, inside)) in
      let same : get_or tables 0 other ≡ table_at tables 0 =
      sym (get_or_from_slice_get tables 0 (get_or tables 0 other) no_table (slice_get-get_or tables 0 other stands)) in
      let found = in_second (kept_kinds config) (unnamed_kinds tables indices) (named_kinds config tables indices) place choice.Passive at
      inside in
      let alone = one_alone (begin_first indices && is_funcref (table_at tables 0).element_type) (choice.Active None (table_at tables 0))
      choice.Passive (place - length (kept_kinds config)) (omega (arith, at, inside)) in
      ap (λ (one : TableType). choice.Active None one) same ∙ sym (found ∙ alone)

  -- after the first table without its index, tables by their indices
  pub named_found : kept + unnamed ≤ place → place < length (kinds_over config tables indices)
      → choice.Active (Some (get_or indices (place - kept - unnamed) 0)) (table_at tables (get_or indices (place - kept - unnamed) 0))
      ≡ get_or (kinds_over config tables indices) place choice.Passive
  named_found from inside =
      let first = kept_kinds config in
      let second = unnamed_kinds tables indices in
      let third = named_kinds config tables indices in
      let at : length first + length second ≤ place = omega (arith, is_kept, is_unnamed, from) in
      let within : place - length first - length second < length third =
      omega (arith, at, inside, length-append first second, length-append (first ++ second) third) in
      let found = in_third first second third place choice.Passive at in
      let named = each_named config.bulk_memory_enabled (λ index. choice.Active (Some index) (table_at tables index)) indices
      (place - length first - length second) choice.Passive within in
      rw (is_kept, is_unnamed) (sym (found ∙ named))
