-- Types of a set: their counts as types are added, and the index of one of them.
use Rattle.smith_types.proofs.Common.{[], AbstractHeapType, ap, arith, Array, Bool, CompositeInnerType, false, Func, if◌then◌else◌, length}
use Rattle.smith_types.proofs.Common.{List, refl, rules, shared, slice_get, Some, Struct, subst, SubType, suc, sym, take, take_all, true}
use Rattle.smith_types.proofs.Common.{zero, ℕ, ◌++◌, ◌+◌, ◌-◌, ◌<◌, ◌∙◌, ◌∷◌, ◌≡◌, ◌≤◌}
use Rattle.smith_types.specs.declared.kind_counts.KindCounts.{KindCounts}
use Rattle.smith_types.specs.declared.kind_counts.TypeSet.{TypeSet}
use Rattle.smith_types.specs.declared.kind_counts.TypeSet.TheVariants.{OfKind, Functions, WithoutResults}
use Rattle.smith_types.specs.KindCounts.{is_inner_of_kind, is_function, gives_nothing, is_in, indices_from, indices_in, count_where}
use Rattle.smith_types.specs.KindCounts.{kind_count_at, count_in, one_more_if, counts_with, AreCounts}

-- the count of a kind with one more type
kind_counted : (counts : KindCounts) (s : Bool) (kind : AbstractHeapType) (is_shared : Bool) (inner : CompositeInnerType)
    → kind_count_at (counts_with is_shared inner counts) s kind ≡ one_more_if (is_inner_of_kind s kind is_shared inner)
    (kind_count_at counts s kind)
kind_counted counts s kind is_shared inner = search rules

functions_counted : (counts : KindCounts) (is_shared : Bool) (inner : CompositeInnerType)
    → count_in (counts_with is_shared inner counts) Functions ≡ one_more_if (is_function inner) (count_in counts Functions)
functions_counted counts false (Func f) = omega arith
functions_counted counts true (Func f) = omega arith
functions_counted counts false (Array a) = refl
functions_counted counts true (Array a) = refl
functions_counted counts false (Struct s) = refl
functions_counted counts true (Struct s) = refl

without_results_counted : (counts : KindCounts) (is_shared : Bool) (inner : CompositeInnerType)
    → count_in (counts_with is_shared inner counts) WithoutResults ≡ one_more_if (gives_nothing inner) (count_in counts WithoutResults)
without_results_counted counts false (Func f) = refl
without_results_counted counts true (Func f) = refl
without_results_counted counts false (Array a) = refl
without_results_counted counts true (Array a) = refl
without_results_counted counts false (Struct s) = refl
without_results_counted counts true (Struct s) = refl

-- the count of a set with one more type
counted : (counts : KindCounts) (set : TypeSet) (t : SubType) → count_in (counts_with (shared t) t.composite_type.inner counts) set
    ≡ one_more_if (is_in set t) (count_in counts set)
counted counts (OfKind s kind) t = kind_counted counts s kind (shared t) t.composite_type.inner
counted counts Functions t = functions_counted counts (shared t) t.composite_type.inner
counted counts WithoutResults t = without_results_counted counts (shared t) t.composite_type.inner

one_after : (b : Bool) (n m l : ℕ) (c : Bool) → l ≡ (if c then m + 1 else m) → n ≡ (if b then l + 1 else l)
    → n ≡ (if c then (if b then m + 1 else m) + 1 else (if b then m + 1 else m))
one_after true n m l true is same = omega arith
one_after true n m l false is same = omega arith
one_after false n m l true is same = omega arith
one_after false n m l false is same = omega arith

-- the number of types that satisfy a test, with one more type
count_push : (test : SubType → Bool) (types : List SubType) (t : SubType) → count_where test (types ++ t ∷ [])
    ≡ (if test t then count_where test types + 1 else count_where test types)
count_push test [] t = refl
count_push test (u ∷ types) t = one_after (test u) _ (count_where test types) _ (test t) (count_push test types t) refl

pub AreCounts-push : (types : List SubType) (t : SubType) (counts : KindCounts) → AreCounts types counts
    → AreCounts (types ++ t ∷ []) (counts_with (shared t) t.composite_type.inner counts)
AreCounts-push types t counts before = record {
  each = λ set.
      let after = counted counts set t in
      let one = count_push (is_in set) types t in
      after ∙ ap (λ (n : ℕ). one_more_if (is_in set t) n) (before.each set) ∙ sym one;
}

pub AreCounts-none : AreCounts [] (record {
  arrays = 0;
  funcs = 0;
  structs = 0;
  shared_arrays = 0;
  shared_funcs = 0;
  shared_structs = 0;
  without_results = 0;
})
AreCounts-none = record { each = λ set. none set }
  where
    none_of_kind : (s : Bool) (kind : AbstractHeapType)
        → kind_count_at (record {
          arrays = 0;
          funcs = 0;
          structs = 0;
          shared_arrays = 0;
          shared_funcs = 0;
          shared_structs = 0;
          without_results = 0;
        }) s kind ≡ 0
    none_of_kind s kind = search rules

    none : (set : TypeSet) → count_in (record {
      arrays = 0;
      funcs = 0;
      structs = 0;
      shared_arrays = 0;
      shared_funcs = 0;
      shared_structs = 0;
      without_results = 0;
    }) set ≡ 0
    none (OfKind s kind) = none_of_kind s kind
    none Functions = refl
    none WithoutResults = refl

most_turn : (b : Bool) (n m : ℕ) → n ≤ m → (if b then n + 1 else n) ≤ suc m
most_turn true n m le = omega arith
most_turn false n m le = omega arith

-- at most all types satisfy a test
pub count_most : (test : SubType → Bool) (types : List SubType) → count_where test types ≤ length types
count_most test [] = omega arith
count_most test (t ∷ types) = most_turn (test t) (count_where test types) (length types) (count_most test types)

long_turn : (b : Bool) (first n : ℕ) (rest : List ℕ) → length rest ≡ n → length (if b then first ∷ rest else rest)
    ≡ (if b then n + 1 else n)
long_turn true first n rest e = omega arith
long_turn false first n rest e = e

-- as many indices as types that satisfy a test
pub length_indices : (test : SubType → Bool) (first : ℕ) (types : List SubType) → length (indices_from test first types)
    ≡ count_where test types
length_indices test first [] = refl
length_indices test first (t ∷ types) = long_turn (test t) first (count_where test types) (indices_from test (first + 1) types)
    (length_indices test (first + 1) types)

here_turn : (b : Bool) (first place : ℕ) (rest : List ℕ) → place < (if b then 0 + 1 else 0)
    → slice_get (if b then first ∷ rest else rest) place ≡ Some (first + 0)
here_turn true first zero rest less = ap Some (omega arith)
here_turn true first (suc place) rest less = absurd (omega arith)
here_turn false first place rest less = absurd (omega arith)

later_turn : (b : Bool) (first place n m : ℕ) (found : ℕ) (rest : List ℕ) → (if b then n + 1 else n) ≤ place
    → place < (if b then m + 1 else m)
    → ((p : ℕ) → n ≤ p → p < m → slice_get rest p ≡ Some found) → slice_get (if b then first ∷ rest else rest) place ≡ Some found
later_turn true first zero n m found rest least most at = absurd (omega arith)
later_turn true first (suc place) n m found rest least most at = at place (omega arith) (omega arith)
later_turn false first place n m found rest least most at = at place least most

-- the type at index i has the position `place` among those that satisfy a test: at most `place` of
-- them precede it, and more than `place` are up to it
index_found : (test : SubType → Bool) (first : ℕ) (types : List SubType) (i place : ℕ) → i < length types
    → count_where test (take i types) ≤ place → place < count_where test (take (suc i) types)
    → slice_get (indices_from test first types) place ≡ Some (first + i)
index_found test first [] i place inside least most = absurd (omega arith)
index_found test first (t ∷ types) zero place inside least most = here_turn (test t) first place (indices_from test (first + 1) types) most
index_found test first (t ∷ types) (suc i) place inside least most =
    later_turn (test t) first place (count_where test (take i types)) (count_where test (take (suc i) types)) (first + suc i)
    (indices_from test (first + 1) types) least most
    (λ p low high. index_found test (first + 1) types i p (omega arith) low high ∙ ap Some (omega arith))

pub index_in_found : (types : List SubType) (set : TypeSet) (i place : ℕ) → i < length types → count_where (is_in set) (take i types)
    ≤ place → place < count_where (is_in set) (take (suc i) types)
    → slice_get (indices_in types set) place ≡ Some i
index_in_found types set i place inside least most = index_found (is_in set) 0 types i place inside least most ∙ ap Some (omega arith)

-- the search for a type of a set starts with all types
pub search_begins : (types : List SubType) (set : TypeSet) (place long : ℕ) → long ≡ length types → place < length (indices_in types set)
    → (long - 1 < length types) × (place < count_where (is_in set) (take (suc (long - 1)) types))
search_begins types set place long is less =
    let picked = length_indices (is_in set) 0 types in
    let most = count_most (is_in set) types in
    let all : take (suc (long - 1)) types ≡ types = take_all (suc (long - 1)) types (omega (arith, is)) in
    (omega (arith, is, picked, most, less), rw all (omega (arith, picked, less)))

-- the search ends with one type
pub search_ends : (types : List SubType) (set : TypeSet) (place low high : ℕ) → high ≤ low → low ≤ high → high < length types
    → count_where (is_in set) (take low types) ≤ place → place < count_where (is_in set) (take (suc high) types)
    → slice_get (indices_in types set) place ≡ Some low
search_ends types set place low high met ordered inside least most =
    let same : high ≡ low = omega (arith, met, ordered) in
    index_in_found types set low place (omega (arith, same, inside)) least
    (subst (λ n. place < count_where (is_in set) (take (suc n) types)) same most)
