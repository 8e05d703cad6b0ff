-- The numbers that are interesting in each module, as a list, and another list of the same numbers.
use Rattle.std.proofs.Common.{arith, ◌≡◌, ◌⊎◌, inl, inr, ℕ, zero, suc, ◌+◌, ◌≤◌, ◌-◌, ◌*◌, ◌^◌, ◌<◌, Bool, true, List, [], ◌∷◌, ◌++◌, refl}
use Rattle.std.proofs.Common.{sym, subst, ap, ◌∙◌}
use Rattle.std.specs.Prelude.{nat_eq, nat_lt, slice_index_or, map, length, get_or}
use Rattle.std.specs.List.Sorted.{IsStrictlyIncreasing}
use Rattle.std.specs.List.{All, Contains, list_all, list_any, range_with_len, flat_map}
use Rattle.std.proofs.lemmas.Bool.{eqb-true, ltb-true}
use Rattle.std.proofs.lemmas.List.Elements.{All-nil, All-cons, All-append, All-map, All-contains, All-contains_itself, All-weaker}
use Rattle.std.proofs.lemmas.List.Elements.{Contains-append_cases}
use Rattle.std.proofs.lemmas.List.Folds.{Any-from_list_any}
use Rattle.std.proofs.lemmas.List.FromFn.{length-range_with_len, get_or-range_with_len}
use Rattle.std.proofs.lemmas.List.Sums.{AllPass-from_list_all}
use Rattle.smith_module_rules.specs.InterestingValues.{IsNearPower, IsPattern, float_edges}
use Rattle.smith_module_rules.specs.CollectedValues.{AreExactly, Wide, IsConstantValue}

-- whether a number is in a list
abbrev has : List ℕ → ℕ → Bool
has numbers n = list_any (λ m. nat_eq m n) numbers

has_contains : (numbers : List ℕ) (n : ℕ) → has numbers n ≡ true → Contains numbers n
has_contains numbers n found =
    let (k, m, inside, at, same) = Any-from_list_any (λ m. nat_eq m n) numbers found in
    (k, inside, subst (λ x. slice_index_or numbers k x ≡ x) (eqb-true m n same) at)

-- each item of a list is found in another list
pub members : (xs ys : List ℕ) → list_all (has ys) xs ≡ true → (n : ℕ) → Contains xs n → Contains ys n
members xs ys all n inside = has_contains ys n (All-contains (λ x. has ys x ≡ true) xs n (AllPass-from_list_all (has ys) xs all) inside)

-- another list of the same numbers
pub same_members : {P : ℕ → Type 0} (xs ys : List ℕ) → AreExactly P xs → list_all (has ys) xs ≡ true → list_all (has xs) ys ≡ true
    → AreExactly P ys
same_members {P = P} xs ys exactly there back = record {
  each = All-weaker (Contains ys) P (λ n inside. All-contains P xs n exactly.each (members ys xs back n inside)) ys
      (All-contains_itself ys);
  whole = λ n holds. members xs ys there n (exactly.whole n holds);
}

-- the edges of one power of two
abbrev edges : ℕ → List ℕ
edges i = (2 ^ i) ∷ (2 ^ i - 1) ∷ (2 ^ 64 - 2 ^ i) ∷ (2 ^ 64 - 2 ^ i - 1) ∷ []

abbrev powers : ℕ → ℕ → List ℕ
powers from count = flat_map edges (range_with_len from count)

abbrev patterns : List ℕ
patterns = 1 ∷ 254 ∷ 17 ∷ 238 ∷ 85 ∷ 170 ∷ []

abbrev repeated : ℕ → ℕ
repeated byte = byte * 72340172838076673

-- the numbers in the order of their definition
abbrev pub constants : List ℕ
constants = powers 0 64 ++ (map repeated patterns ++ (float_edges 11 52 ++ float_edges 8 23))

below : (p : ℕ → Bool) (most : ℕ) → list_all p (range_with_len 0 most) ≡ true → (i : ℕ) → i < most → p i ≡ true
below p most all i small =
    let each = AllPass-from_list_all p (range_with_len 0 most) all in
    let at : p (slice_index_or (range_with_len 0 most) i 0) ≡ true = each i 0 (rw (length-range_with_len 0 most) small) in
    let place : slice_index_or (range_with_len 0 most) i 0 ≡ i = get_or-range_with_len 0 most i 0 small ∙ omega arith in
    sym (ap p place) ∙ at

-- each number is below the next, by a test of each
pub rises : (xs : List ℕ) → list_all (λ k. nat_lt (get_or xs k 0) (get_or xs (k + 1) 0)) (range_with_len 0 (length xs - 1)) ≡ true
    → IsStrictlyIncreasing xs
rises xs all k within = ltb-true (get_or xs k 0) (get_or xs (k + 1) 0) (below (λ i. nat_lt (get_or xs i 0) (get_or xs (i + 1) 0))
    (length xs - 1) all k (omega arith))

power_positive : (i : ℕ) → i < 64 → 0 < 2 ^ i
power_positive i small = ltb-true 0 (2 ^ i) (below (λ k. nat_lt 0 (2 ^ k)) 64 refl i small)

power_fits : (i : ℕ) → i < 64 → 2 ^ i < 2 ^ 64
power_fits i small = ltb-true (2 ^ i) (2 ^ 64) (below (λ k. nat_lt (2 ^ k) (2 ^ 64)) 64 refl i small)

edges_near : (i : ℕ) → i < 64 → All IsNearPower (edges i)
edges_near i small =
    let positive = power_positive i small in
    let fits = power_fits i small in
    let P = IsNearPower in
    All-cons P (2 ^ i) ((2 ^ i - 1) ∷ (2 ^ 64 - 2 ^ i) ∷ (2 ^ 64 - 2 ^ i - 1) ∷ []) (i, small, inl refl)
    (All-cons P (2 ^ i - 1) ((2 ^ 64 - 2 ^ i) ∷ (2 ^ 64 - 2 ^ i - 1) ∷ []) (i, small, inr (inl (omega (arith, positive))))
    (All-cons P (2 ^ 64 - 2 ^ i) ((2 ^ 64 - 2 ^ i - 1) ∷ []) (i, small, inr (inr (inl (omega (arith, fits)))))
    (All-cons P (2 ^ 64 - 2 ^ i - 1) [] (i, small, inr (inr (inr (omega (arith, fits))))) (All-nil P))))

powers_near : (from count : ℕ) → from + count ≤ 64 → All IsNearPower (powers from count)
powers_near from zero small = All-nil IsNearPower
powers_near from (suc count) small = All-append IsNearPower (edges from) (powers (from + 1) count) (edges_near from (omega (arith, small)))
    (powers_near (from + 1) count (omega (arith, small)))

-- the reason why a number is in the list
reason : (n : ℕ) → Contains constants n → IsConstantValue n
reason n inside = elim (Contains-append_cases (powers 0 64) (map repeated patterns ++ (float_edges 11 52 ++ float_edges 8 23)) n inside) [
  | inl power ↦ inl (All-contains IsNearPower (powers 0 64) n (powers_near 0 64 (omega arith)) power)
  | inr other ↦ elim (Contains-append_cases (map repeated patterns) (float_edges 11 52 ++ float_edges 8 23) n other) [
    | inl pattern ↦ inr (inl (All-contains IsPattern (map repeated patterns) n
        (All-map IsPattern repeated patterns (All-weaker (Contains patterns) (λ byte. IsPattern (repeated byte))
        (λ byte h. (h.0, byte, h.1, h.2, refl)) patterns (All-contains_itself patterns)))
        pattern))
    | inr edge ↦ inr (inr (Contains-append_cases (float_edges 11 52) (float_edges 8 23) n edge))
  ]
]

near_edges : (n i : ℕ) → (n ≡ 2 ^ i) ⊎ ((n + 1 ≡ 2 ^ i) ⊎ ((n + 2 ^ i ≡ 2 ^ 64) ⊎ (n + 2 ^ i + 1 ≡ 2 ^ 64))) → Contains (edges i) n
near_edges n i (inl e) = (0, omega arith, sym e)
near_edges n i (inr (inl e)) = (1, omega arith, omega (arith, e))
near_edges n i (inr (inr (inl e))) = (2, omega arith, omega (arith, e))
near_edges n i (inr (inr (inr e))) = (3, omega arith, omega (arith, e))

-- each number is in the list
listed : (n : ℕ) → IsConstantValue n → Contains constants n
listed n (inl (i, small, edge)) = members (edges i) constants (below (λ k. list_all (has constants) (edges k)) 64 refl i small) n
    (near_edges n i edge)
listed n (inr (inl (k, byte, inside, at, pattern))) =
    let found = All-contains (λ b. has constants (repeated b) ≡ true) patterns byte
    (AllPass-from_list_all (λ b. has constants (repeated b)) patterns refl) (k, inside, at) in
    subst (Contains constants) (sym pattern) (has_contains constants (repeated byte) found)
listed n (inr (inr (inl edge))) = members (float_edges 11 52) constants refl n edge
listed n (inr (inr (inr edge))) = members (float_edges 8 23) constants refl n edge

pub constants_exactly : AreExactly (Wide IsConstantValue) constants
constants_exactly = record {
  each = All-weaker (Contains constants) (Wide IsConstantValue) (λ n inside. (fits n inside, reason n inside)) constants
      (All-contains_itself constants);
  whole = λ n h. listed n h.1;
}
  where
    fits : (n : ℕ) → Contains constants n → n < 2 ^ 64
    fits n inside = ltb-true n (2 ^ 64) (All-contains (λ m. nat_lt m (2 ^ 64) ≡ true) constants n
        (AllPass-from_list_all (λ m. nat_lt m (2 ^ 64)) constants refl) inside)
