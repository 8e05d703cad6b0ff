-- Two modules for the same configuration and the same bytes.
use Rattle.wasm_smith.proofs.Common.{[], All-contains, ap, arith, Bool, Config, Contains, Error, HasInterestingValues, inl, inr, List}
use Rattle.wasm_smith.proofs.Common.{ModuleParts, refl, subst, suc, sym, zero, ℕ, ◌<◌, ◌∙◌, ◌∷◌, ◌≡◌, ◌⊎◌}
use Rattle.std.proofs.Common.{Err, Ok, Result}
use Rattle.std.proofs.lemmas.List.Elements.{Contains-append_cases, Contains-append_right, Contains-push_cases}
use Rattle.smith_module_rules.specs.InterestingValues.{AreAll, IsInteresting32, IsInteresting64}
use Rattle.smith_module_rules.proofs.MergeLemmas.{Rises, rises_from}
use Rattle.wasm_smith.specs.Build.{as_drawn}
use Rattle.wasm_smith.specs.Generated.{IsGenerated}

-- numbers in a list
here : (x : ℕ) (xs : List ℕ) → Contains (x ∷ xs) x
here x xs = (zero, omega arith, refl)

later : (x : ℕ) (xs : List ℕ) (n : ℕ) → Contains xs n → Contains (x ∷ xs) n
later x xs n inside = Contains-append_right (x ∷ []) xs n inside

one_of : (x : ℕ) (xs : List ℕ) (n : ℕ) → Contains (x ∷ xs) n → (x ≡ n) ⊎ Contains xs n
one_of x xs n inside = elim (Contains-append_cases (x ∷ []) xs n inside) [
  | inl alone ↦ elim (Contains-push_cases [] x n alone) [
    | inl none ↦ absurd (omega (arith, none.1))
    | inr same ↦ inl same
  ]
  | inr more ↦ inr more
]

-- the numbers after the first in ascending order
rest_rises : (x : ℕ) (xs : List ℕ) → Rises (x ∷ xs) → Rises xs
rest_rises x xs rises i j d before within = rises (suc i) (suc j) d (omega arith) (omega arith)

above_first : (x : ℕ) (xs : List ℕ) (n : ℕ) → Rises (x ∷ xs) → Contains xs n → x < n
above_first x xs n rises inside = All-contains (λ y. x < y) xs n (λ k d within. rises zero (suc k) d (omega arith) (omega arith)) inside

-- the first of two lists of the same numbers
same_first : (x y : ℕ) (xs ys : List ℕ) → Rises (x ∷ xs) → Rises (y ∷ ys) → Contains (y ∷ ys) x → Contains (x ∷ xs) y → x ≡ y
same_first x y xs ys one other x_in y_in = elim (one_of y ys x x_in) [
  | inl same ↦ sym same
  | inr after ↦ elim (one_of x xs y y_in) [
    | inl same ↦ same
    | inr behind ↦ absurd (omega (arith, above_first y ys x other after, above_first x xs y one behind))
  ]
]

-- a number after the first of one list is after that of the other
still_after : (x : ℕ) (xs ys : List ℕ) (n : ℕ) → Rises (x ∷ xs) → Contains xs n → Contains (x ∷ ys) n → Contains ys n
still_after x xs ys n rises inside found = elim (one_of x ys n found) [
  | inl same ↦ absurd (omega (arith, above_first x xs n rises inside, same))
  | inr after ↦ after
]

-- lists in ascending order that have the same numbers are equal
same_numbers : (xs ys : List ℕ) → Rises xs → Rises ys → ((n : ℕ) → Contains xs n → Contains ys n)
    → ((n : ℕ) → Contains ys n → Contains xs n) → xs ≡ ys
same_numbers [] [] one other there back = refl
same_numbers [] (y ∷ ys) one other there back = absurd (omega (arith, (back y (here y ys)).1))
same_numbers (x ∷ xs) [] one other there back = absurd (omega (arith, (there x (here x xs)).1))
same_numbers (x ∷ xs) (y ∷ ys) one other there back =
    let first : x ≡ y = same_first x y xs ys one other (there x (here x xs)) (back y (here y ys)) in
    let rises : Rises (x ∷ ys) = subst (λ (n : ℕ). Rises (n ∷ ys)) (sym first) other in
    let tail : xs ≡ ys =
    same_numbers xs ys (rest_rises x xs one) (rest_rises x ys rises)
    (λ n inside. still_after x xs ys n one inside (subst (λ (m : ℕ). Contains (m ∷ ys) n) (sym first) (there n (later x xs n inside))))
    (λ n inside. still_after x ys xs n rises inside (back n (later y ys n inside))) in
    ap (λ (m : ℕ). m ∷ xs) first ∙ ap (λ (zs : List ℕ). y ∷ zs) tail

-- the numbers with a property are one list
all_same : (Holds : ℕ → Type 0) (xs ys : List ℕ) → AreAll Holds xs → AreAll Holds ys → xs ≡ ys
all_same Holds xs ys one other =
    same_numbers xs ys (rises_from xs one.ascending) (rises_from ys other.ascending)
    (λ n inside. other.whole n (All-contains Holds xs n one.each inside))
    (λ n inside. one.whole n (All-contains Holds ys n other.each inside))

-- the module and the bytes left of a result
abbrev drawn_in : ModuleParts × List ℕ → Result (ModuleParts × List ℕ) Error → ModuleParts × List ℕ
drawn_in other (Ok drawn) = drawn
drawn_in other (Err e) = other

-- a module with these interesting values
abbrev valued : ModuleParts → List ℕ → List ℕ → ModuleParts
valued m narrow wide = record m { interesting_values32 = narrow; interesting_values64 = wide }

-- modules that are equal as they are drawn have the same interesting values
same_valued : (one other : ModuleParts) → HasInterestingValues one → HasInterestingValues other → as_drawn one ≡ as_drawn other
    → one ≡ other
same_valued one other h k drawn =
    let narrow : one.interesting_values32 ≡ other.interesting_values32 =
    all_same (IsInteresting32 other.tables other.memories) one.interesting_values32 other.interesting_values32
    (subst (λ (m : ModuleParts). AreAll (IsInteresting32 m.tables m.memories) one.interesting_values32) drawn h.narrow) k.narrow in
    let wide : one.interesting_values64 ≡ other.interesting_values64 =
    all_same (IsInteresting64 other.tables other.memories) one.interesting_values64 other.interesting_values64
    (subst (λ (m : ModuleParts). AreAll (IsInteresting64 m.tables m.memories) one.interesting_values64) drawn h.wide) k.wide in
    ap (λ (m : ModuleParts). valued m one.interesting_values32 one.interesting_values64) drawn
    ∙ ap (λ (values : List ℕ). valued (as_drawn other) values one.interesting_values64) narrow
    ∙ ap (λ (values : List ℕ). valued (as_drawn other) other.interesting_values32 values) wide

pub modules_same : (distinct : Bool) (given : Config) (bytes left rest : List ℕ) (one other : ModuleParts)
    → IsGenerated distinct given bytes (Ok one) left → IsGenerated distinct given bytes (Ok other) rest → (one ≡ other) × (left ≡ rest)
modules_same distinct given bytes left rest one other h k =
    let both : Ok (as_drawn one, left) ≡ Ok (as_drawn other, rest) = sym (h.exact.exact h.may_give) ∙ k.exact.exact k.may_give in
    let same : (as_drawn one, left) ≡ (as_drawn other, rest) = ap (drawn_in (as_drawn one, left)) both in (
      same_valued one other h.interesting k.interesting (ap (λ (x : ModuleParts × List ℕ). x.0) same),
      ap (λ (x : ModuleParts × List ℕ). x.1)
          same,
    )
