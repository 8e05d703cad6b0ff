-- The kinds of element segments that are offered.
use Rattle.smith_draw_contents.proofs.Common.{[], All, All-cons, All-head, All-nil, All-push, arith, Bool, cond, cond_both, Config}
use Rattle.smith_draw_contents.proofs.Common.{eqb-true, false, features_of, length, length-append, List, refl, slice_get, subst, SubType}
use Rattle.smith_draw_contents.proofs.Common.{suc, sym, TableType, true, ℕ, ◌&&◌, ◌++◌, ◌+◌, ◌==◌, ◌∷◌, ◌≡◌, ◌≤◌}
use Rattle.std.specs.Prelude.{None, Some}
use Rattle.std.proofs.lemmas.List.Elements.{All-tail}
use Rattle.smith_types.specs.Entities.{IsTableValid}
use Rattle.smith_draw_contents.specs.DrawnElements.{IsKindOffered}
use Rattle.smith_draw_contents.specs.ElementSegments.{KindChoice, is_funcref, is_offered_at, with_unnamed, with_named, table_kinds_at}
use Rattle.smith_draw_contents.specs.ElementSegments.{kept_kinds, element_kinds_at}
use Rattle.smith_draw_contents.specs.declared.element_kinds.KindChoice.TheVariants as choice

-- `tables` are those of `whole` from an index on
record StandFrom (whole : List TableType) (index : ℕ) (tables : List TableType) : Type 0 where
  pub each : (place : ℕ) (table : TableType) → slice_get tables place ≡ Some table → slice_get whole (index + place) ≡ Some table

later_stand : (whole : List TableType) (index : ℕ) (table : TableType) (tables : List TableType) → StandFrom whole index (table ∷ tables)
    → StandFrom whole (suc index) tables
later_stand whole index table tables stand = record { each = λ place one at. rw (sym (shifted place)) (stand.each (suc place) one at) }
  where
    shifted : (place : ℕ) → index + suc place ≡ suc index + place
    shifted place = omega arith

left_true : (a b : Bool) → (a && b) ≡ true → a ≡ true
left_true true b on = refl
left_true false b on = on

module _ (config : Config) (types : List SubType) (whole : List TableType) where
  unnamed_offered : (index : ℕ) (table : TableType) (kinds : List KindChoice) → slice_get whole index ≡ Some table
      → IsTableValid (features_of config) types table → All (IsKindOffered config types whole) kinds
      → All (IsKindOffered config types whole) (with_unnamed index table kinds)
  unnamed_offered index table kinds stands fit all =
      cond_both ((index == 0) && is_funcref table.element_type) (kinds ++ choice.Active None table ∷ []) kinds
      (All (IsKindOffered config types whole))
      (λ on. All-push (IsKindOffered config types whole) kinds (choice.Active None table) all
      (record {
        valid = fit;
        stands = subst (λ (place : ℕ). slice_get whole place ≡ Some table)
            (eqb-true index 0 (left_true (index == 0) (is_funcref table.element_type) on)) stands;
        named = λ never. cc;
      }))
      (λ off. all)

  named_offered : (index : ℕ) (table : TableType) (kinds : List KindChoice) → slice_get whole index ≡ Some table
      → IsTableValid (features_of config) types table → All (IsKindOffered config types whole) kinds
      → All (IsKindOffered config types whole) (with_named config index table kinds)
  named_offered index table kinds stands fit all =
      cond_both config.bulk_memory_enabled (kinds ++ choice.Active (Some index) table ∷ []) kinds (All (IsKindOffered config types whole))
      (λ on. All-push (IsKindOffered config types whole) kinds (choice.Active (Some index) table) all
      (record { valid = fit; stands = stands; named = λ _. on }))
      (λ off. all)

  table_kinds_offered : (kinds : List KindChoice) (index : ℕ) (tables : List TableType) (bytes : List ℕ) → StandFrom whole index tables
      → All (IsTableValid (features_of config) types) tables → All (IsKindOffered config types whole) kinds
      → All (IsKindOffered config types whole) (table_kinds_at config kinds index tables bytes).0
  unfolding table_kinds_at
  table_kinds_offered kinds index [] bytes stand fit all = all
  table_kinds_offered kinds index (table ∷ tables) bytes stand fit all =
      let offered = is_offered_at table bytes in
      let stands : slice_get whole index ≡ Some table = rw (unshifted index) at (stand.each 0 table refl) in
      let this = All-head (IsTableValid (features_of config) types) table tables fit in
      let more = with_named config index table (with_unnamed index table kinds) in
      table_kinds_offered (cond offered.0 more kinds) (suc index) tables offered.1 (later_stand whole index table tables stand)
      (All-tail (IsTableValid (features_of config) types) table tables fit)
      (cond_both offered.0 more kinds (All (IsKindOffered config types whole))
      (λ on. named_offered index table (with_unnamed index table kinds) stands this (unnamed_offered index table kinds stands this all))
      (λ off. all))
    where
      unshifted : (n : ℕ) → n + 0 ≡ n
      unshifted n = omega arith

kept_offered : (config : Config) (types : List SubType) (whole : List TableType) → All (IsKindOffered config types whole)
    (kept_kinds config)
kept_offered config types whole =
    cond_both config.bulk_memory_enabled (choice.Passive ∷ choice.Declared ∷ []) [] (All (IsKindOffered config types whole))
    (λ on. All-cons (IsKindOffered config types whole) choice.Passive (choice.Declared ∷ []) on
    (All-cons (IsKindOffered config types whole) choice.Declared [] on (All-nil (IsKindOffered config types whole))))
    (λ off. All-nil (IsKindOffered config types whole))

-- each offered kind may be drawn
pub kinds_offered : (config : Config) (types : List SubType) (tables : List TableType) (bytes : List ℕ)
    → All (IsTableValid (features_of config) types) tables → All (IsKindOffered config types tables)
    (element_kinds_at config tables bytes).0
unfolding element_kinds_at
kinds_offered config types tables bytes fit =
    table_kinds_offered config types tables (kept_kinds config) 0 tables bytes
    (record { each = λ place one found. rw (unmoved place) found }) fit (kept_offered config types tables)
  where
    unmoved : (place : ℕ) → 0 + place ≡ place
    unmoved place = omega arith

-- kinds are only added
table_kinds_longer : (config : Config) (kinds : List KindChoice) (index : ℕ) (tables : List TableType) (bytes : List ℕ)
    → length kinds ≤ length (table_kinds_at config kinds index tables bytes).0
unfolding table_kinds_at
table_kinds_longer config kinds index [] bytes = omega arith
table_kinds_longer config kinds index (table ∷ tables) bytes =
    let offered = is_offered_at table bytes in
    let unnamed = with_unnamed index table kinds in
    let named = with_named config index table unnamed in
    let first = pushed ((index == 0) && is_funcref table.element_type) kinds (choice.Active None table) in
    let second = pushed config.bulk_memory_enabled unnamed (choice.Active (Some index) table) in
    let one = cond_both offered.0 named kinds (λ (more : List KindChoice). length kinds ≤ length more) (λ on. omega (arith, first, second))
    (λ off. omega arith) in
    omega (arith, one, table_kinds_longer config (cond offered.0 named kinds) (suc index) tables offered.1)
  where
    pushed : (on : Bool) (made : List KindChoice) (one : KindChoice) → length made ≤ length (cond on (made ++ one ∷ []) made)
    pushed true made one = omega (arith, length-append made (one ∷ []))
    pushed false made one = omega arith

-- if no kind is offered, there is no bulk memory
pub no_kind : (config : Config) (tables : List TableType) (bytes : List ℕ) → length (element_kinds_at config tables bytes).0 ≡ 0
    → config.bulk_memory_enabled ≡ false
unfolding element_kinds_at
no_kind config tables bytes none =
    of_bulk config.bulk_memory_enabled (omega (arith, none, table_kinds_longer config (kept_kinds config) 0 tables bytes))
  where
    of_bulk : (on : Bool) → length (cond on (choice.Passive ∷ choice.Declared ∷ []) []) ≤ 0 → on ≡ false
    of_bulk true few = absurd (omega (arith, few))
    of_bulk false few = refl
