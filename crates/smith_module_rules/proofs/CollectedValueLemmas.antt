-- Numbers that are collected piece by piece, and their low halves.
use Rattle.std.proofs.Common.{arith, ◌≡◌, ◌⊎◌, inl, inr, ℕ, ◌+◌, ◌*◌, ◌^◌, ◌<◌, ◌≤◌, ◌%◌, ◌/◌, List, [], ◌∷◌, ◌++◌, length, get_or, refl}
use Rattle.std.proofs.Common.{sym, subst, ap, ◌∙◌}
use Rattle.std.specs.Prelude.{map, take, Option, Some, None}
use Rattle.std.specs.List.{All, Any, Contains}
use Rattle.std.specs.List.{dedup}
use Rattle.std.specs.List.Sorted.{IsPermutation, IsSorted}
use Rattle.std.specs.Ordering.{nat_cmp}
use Rattle.std.proofs.Math.Dec.{eqb}
use Rattle.std.proofs.lemmas.List.Kept.{Contains-dedup_nat, Contains-from_dedup}
use Rattle.std.proofs.lemmas.List.Sorted.{Contains-permutation, IsPermutation-sym}
use Rattle.std.proofs.lemmas.Map.Keys.{IsStrictlyIncreasing-dedup}
use Rattle.std.proofs.lemmas.Nat.{mod-mul-add, div-add-mod'}
use Rattle.std.proofs.lemmas.List.{append_assoc, append-nil, take_all, take_more}
use Rattle.std.proofs.lemmas.List.Elements.{All-nil, All-cons, All-append, All-map, All-contains, All-contains_itself, All-weaker}
use Rattle.std.proofs.lemmas.List.Elements.{Contains-append_left, Contains-append_right, Contains-push_cases}
use Rattle.std.proofs.lemmas.List.Quantifiers.{Any-push}
use Rattle.smith_types.specs.Syntax.entity_type.TableType.{TableType}
use Rattle.smith_types.specs.Syntax.entity_type.MemoryType.{MemoryType}
use Rattle.smith_module_rules.specs.InterestingValues.{HasReason, IsInteresting64, IsInteresting32, AreAll, limits_of}
use Rattle.smith_module_rules.specs.CollectedValues.{AreExactly, AddsNumbers, Wide, Narrow, IsConstantValue, IsNearLimit, IsSortedSet}

-- the low half of a number of 64 bits
abbrev pub low_half : ℕ → ℕ
low_half n = n % 2 ^ 32

contains_mapped : (f : ℕ → ℕ) (xs : List ℕ) → All (λ x. Contains (map f xs) (f x)) xs
contains_mapped f [] = All-nil (λ x. Contains (map f []) (f x))
contains_mapped f (x ∷ xs) =
    All-cons (λ y. Contains (map f (x ∷ xs)) (f y)) x xs (Contains-append_left (f x ∷ []) (map f xs) (f x) (0, omega arith, refl))
    (All-weaker (λ y. Contains (map f xs) (f y)) (λ y. Contains (map f (x ∷ xs)) (f y)) (λ y h. Contains-append_right (f x ∷ []) (map f xs)
    (f y) h) xs (contains_mapped f xs))

pub low_halves : {Holds : ℕ → Type 0} (numbers : List ℕ) → AreExactly (Wide Holds) numbers
    → AreExactly (Narrow Holds) (map low_half numbers)
low_halves {Holds = Holds} numbers exactly = record {
  each = All-map (Narrow Holds) low_half numbers (All-weaker (Wide Holds) (λ n. Narrow Holds (low_half n))
      (λ n h. (mod_below n, (n / 2 ^ 32, subst (Wide Holds) (sym (div-add-mod' n (2 ^ 32))) h))) numbers exactly.each);
  whole = λ n h. whole n h.0 h.1.0 h.1.1;
}
  where
    mod_below : (n : ℕ) → n % 2 ^ 32 < 2 ^ 32
    mod_below n = omega arith

    whole : (n : ℕ) → n < 2 ^ 32 → (high : ℕ) → Wide Holds (high * 2 ^ 32 + n) → Contains (map low_half numbers) n
    whole n small high wide =
        let number = high * 2 ^ 32 + n in
        let found = All-contains (λ x. Contains (map low_half numbers) (low_half x)) numbers number (contains_mapped low_half numbers)
        (exactly.whole number wide) in
        subst (Contains (map low_half numbers)) (mod-mul-add high (2 ^ 32) n small) found

-- one list and then another, of numbers with one property or the other
pub exactly_both : (P Q R : ℕ → Type 0) (xs ys : List ℕ) → ((n : ℕ) → P n → R n) → ((n : ℕ) → Q n → R n) → ((n : ℕ) → R n → P n ⊎ Q n)
    → AreExactly P xs → AreExactly Q ys → AreExactly R (xs ++ ys)
exactly_both P Q R xs ys first second either left right = record {
  each = All-append R xs ys (All-weaker P R first xs left.each) (All-weaker Q R second ys right.each);
  whole = λ n holds. elim (either n holds) [
    | inl one ↦ Contains-append_left xs ys n (left.whole n one)
    | inr other ↦ Contains-append_right xs ys n (right.whole n other)
  ];
}

pub exactly_same : (P Q : ℕ → Type 0) (xs : List ℕ) → ((n : ℕ) → P n → Q n) → ((n : ℕ) → Q n → P n) → AreExactly P xs → AreExactly Q xs
exactly_same P Q xs there back exactly = record {
  each = All-weaker P Q there xs exactly.each;
  whole = λ n holds. exactly.whole n
      (back n holds);
}

-- the numbers after sorting, and then each once
pub in_order : (numbers sorted made : List ℕ) → IsPermutation numbers sorted → IsSorted nat_cmp sorted → made ≡ dedup eqb sorted
    → IsSortedSet numbers made
in_order numbers sorted made moved rising once = record {
  ascending = rw once (IsStrictlyIncreasing-dedup sorted rising);
  keeps = λ n inside. rw once (Contains-dedup_nat sorted n (Contains-permutation numbers sorted n moved inside));
  adds_none = λ n inside. Contains-permutation sorted numbers n (IsPermutation-sym numbers sorted moved)
      (Contains-from_dedup eqb sorted n (rw once at inside));
}

-- numbers with a property, after sorting, each once
pub all_in_order : (P : ℕ → Type 0) (numbers made : List ℕ) → AreExactly P numbers → IsSortedSet numbers made → AreAll P made
all_in_order P numbers made exactly order = record {
  ascending = order.ascending;
  each = All-weaker (Contains made) P (λ n inside. All-contains P numbers n exactly.each (order.adds_none n inside)) made
      (All-contains_itself made);
  whole = λ n holds. order.keeps n (exactly.whole n holds);
}

wide_reason : (tables : List TableType) (memories : List MemoryType) (n : ℕ) → Wide (HasReason tables memories) n → Wide IsConstantValue n
    ⊎ Wide (IsNearLimit tables memories) n
wide_reason tables memories n (fits, inl power) = inl (fits, inl power)
wide_reason tables memories n (fits, inr (inl pattern)) = inl (fits, inr (inl pattern))
wide_reason tables memories n (fits, inr (inr (inl edge))) = inl (fits, inr (inr edge))
wide_reason tables memories n (fits, inr (inr (inr limit))) = inr (fits, limit)

constant_reason : (tables : List TableType) (memories : List MemoryType) (n : ℕ) → IsConstantValue n → HasReason tables memories n
constant_reason tables memories n (inl power) = inl power
constant_reason tables memories n (inr (inl pattern)) = inr (inl pattern)
constant_reason tables memories n (inr (inr edge)) = inr (inr (inl edge))

-- interesting values of 64 bits, from the constants and the values near limits
pub all_wide : (tables : List TableType) (memories : List MemoryType) (constants near made : List ℕ)
    → AreExactly (Wide IsConstantValue) constants
    → AreExactly (Wide (IsNearLimit tables memories)) near → IsSortedSet (constants ++ near) made
    → AreAll (IsInteresting64 tables memories) made
all_wide tables memories constants near made always limits order =
    all_in_order (IsInteresting64 tables memories) (constants ++ near) made
    (exactly_both (Wide IsConstantValue) (Wide (IsNearLimit tables memories)) (IsInteresting64 tables memories) constants near
    (λ n h. record { fits = h.0; reason = constant_reason tables memories n h.1 })
    (λ n h. record { fits = h.0; reason = inr (inr (inr h.1)) }) (λ n h. wide_reason tables memories n (h.fits, h.reason)) always
    limits)
    order

narrow_reason : (tables : List TableType) (memories : List MemoryType) (n : ℕ) → IsInteresting32 tables memories n
    → Narrow IsConstantValue n ⊎ Narrow (IsNearLimit tables memories) n
narrow_reason tables memories n h = elim (wide_reason tables memories (h.high * 2 ^ 32 + n) (h.wide.fits, h.wide.reason)) [
  | inl constant ↦ inl (h.fits, (h.high, constant))
  | inr limit ↦ inr (h.fits, (h.high, limit))
]

-- interesting values of 32 bits, from those of 64 bits
pub all_narrow : (tables : List TableType) (memories : List MemoryType) (constants near made : List ℕ)
    → AreExactly (Narrow IsConstantValue) constants
    → AreExactly (Wide (IsNearLimit tables memories)) near → IsSortedSet (constants ++ map low_half near) made
    → AreAll (IsInteresting32 tables memories) made
all_narrow tables memories constants near made always limits order =
    all_in_order (IsInteresting32 tables memories) (constants ++ map low_half near) made
    (exactly_both (Narrow IsConstantValue) (Narrow (IsNearLimit tables memories)) (IsInteresting32 tables memories) constants
    (map low_half near)
    (λ n h. record {
      fits = h.0;
      high = h.1.0;
      wide = record {
        fits = h.1.1.0;
        reason = constant_reason tables memories (h.1.0 * 2 ^ 32 + n)
            h.1.1.1;
      };
    })
    (λ n h. record { fits = h.0; high = h.1.0; wide = record { fits = h.1.1.0; reason = inr (inr (inr h.1.1.1)) } })
    (narrow_reason tables memories) always (low_halves near limits))
    order

any_kept : {X : Type 0} (P : X → Type 0) (xs : List X) (x : X) → Any P xs → Any P (xs ++ x ∷ [])
any_kept P xs x (k, y, inside, at, holds) = let h = Contains-append_left xs (x ∷ []) y (k, inside, at) in (h.0, y, h.1, h.2, holds)

any_cases : {X : Type 0} (P : X → Type 0) (xs : List X) (x : X) → Any P (xs ++ x ∷ []) → Any P xs ⊎ P x
any_cases P xs x (k, y, inside, at, holds) = elim (Contains-push_cases xs x y (k, inside, at)) [
  | inl h ↦ inl (h.0, y, h.1, h.2, holds)
  | inr same ↦ inr (subst P (sym same) holds)
]

-- one number, or none, is added
pub adds_one : {Holds : ℕ → Type 0} {old new : List ℕ} (x : ℕ) → new ≡ old ++ x ∷ [] → x < 2 ^ 64 → Holds x → ((n : ℕ) → Holds n → n ≡ x)
    → AddsNumbers Holds old new
adds_one {Holds = Holds} x longer fits holds only = record {
  more = x ∷ [];
  parts = longer;
  exactly = record {
    each = All-cons (Wide Holds) x [] (fits, holds) (All-nil (Wide Holds));
    whole = λ n h. (0, omega arith, sym (only n h.1));
  };
}

pub adds_none : {Holds : ℕ → Type 0} {old new : List ℕ} → new ≡ old → ((n : ℕ) → Wide Holds n → ⊥) → AddsNumbers Holds old new
adds_none {Holds = Holds} {old = old} same never = record {
  more = [];
  parts = same ∙ sym (append-nil old);
  exactly = record { each = All-nil (Wide Holds); whole = λ n h. absurd (never n h) };
}

-- some numbers are added, then others
adds_both : (P Q R : ℕ → Type 0) {old middle new : List ℕ} → ((n : ℕ) → P n → R n) → ((n : ℕ) → Q n → R n) → ((n : ℕ) → R n → P n ⊎ Q n)
    → AddsNumbers P old middle → AddsNumbers Q middle new → AddsNumbers R old new
adds_both P Q R {old = old} first second either one other = record {
  more = one.more ++ other.more;
  parts = other.parts ∙ ap (λ xs. xs ++ other.more) one.parts ∙ append_assoc old one.more other.more;
  exactly = exactly_both (Wide P) (Wide Q) (Wide R) one.more other.more (λ n h. (h.0, first n h.1)) (λ n h. (h.0, second n h.1))
      (λ n h. apart n h.0 (either n h.1)) one.exactly other.exactly;
}
  where
    apart : (n : ℕ) → n < 2 ^ 64 → P n ⊎ Q n → Wide P n ⊎ Wide Q n
    apart n fits (inl h) = inl (fits, h)
    apart n fits (inr h) = inr (fits, h)

pub adds_either : (P Q : ℕ → Type 0) {old middle new : List ℕ} → AddsNumbers P old middle → AddsNumbers Q middle new
    → AddsNumbers (λ n. P n ⊎ Q n) old new
adds_either P Q one other = adds_both P Q (λ n. P n ⊎ Q n) (λ n h. inl h) (λ n h. inr h) (λ n h. h) one other

-- no number is near an item of the empty list; a number near a list with one more item is near that
-- item or the list
pub adds_nothing : {X : Type 0} (R : X → ℕ → Type 0) (old : List ℕ) → AddsNumbers (λ n. Any (λ x. R x n) []) old old
adds_nothing R old = adds_none refl (λ n h. omega (arith, h.1.2))

pub adds_more : {X : Type 0} (R : X → ℕ → Type 0) (xs : List X) (x : X) {old middle new : List ℕ}
    → AddsNumbers (λ n. Any (λ y. R y n) xs) old middle → AddsNumbers (R x) middle new
    → AddsNumbers (λ n. Any (λ y. R y n) (xs ++ x ∷ [])) old new
adds_more R xs x one other =
    adds_both (λ n. Any (λ y. R y n) xs) (R x) (λ n. Any (λ y. R y n) (xs ++ x ∷ []))
    (λ n h. any_kept (λ y. R y n) xs x h) (λ n h. Any-push (λ y. R y n) xs x h) (λ n h. any_cases (λ y. R y n) xs x h) one other

-- the iterations of a loop over items
pub adds_next : {X : Type 0} (R : X → ℕ → Type 0) (xs : List X) (i : ℕ) (d : X) {old middle new : List ℕ} → i < length xs
    → AddsNumbers (λ n. Any (λ x. R x n) (take i xs)) old middle
    → AddsNumbers (R (get_or xs i d)) middle new → AddsNumbers (λ n. Any (λ x. R x n) (take (i + 1) xs)) old new
adds_next R xs i d {old = old} {new = new} inside one other =
    subst (λ some. AddsNumbers (λ n. Any (λ x. R x n) some) old new) (sym (take_more xs i d inside))
    (adds_more R (take i xs) (get_or xs i d) one other)

pub adds_last : {X : Type 0} (R : X → ℕ → Type 0) (xs : List X) (i : ℕ) {old new : List ℕ} → length xs ≤ i
    → AddsNumbers (λ n. Any (λ x. R x n) (take i xs)) old new
    → AddsNumbers (λ n. Any (λ x. R x n) xs) old new
adds_last R xs i {old = old} {new = new} ended adds = subst (λ some. AddsNumbers (λ n. Any (λ x. R x n) some) old new) (take_all i xs ended)
    adds

-- if the list was empty, the added numbers are all
pub all_added : {Holds : ℕ → Type 0} {old new : List ℕ} → old ≡ [] → AddsNumbers Holds old new → AreExactly (Wide Holds) new
all_added {Holds = Holds} empty adds = subst (AreExactly (Wide Holds)) (sym (adds.parts ∙ ap (λ xs. xs ++ adds.more) empty)) adds.exactly

-- the numbers near a minimum, and near a maximum if there is one
pub adds_minimum : (R : ℕ → ℕ → Type 0) (minimum : ℕ) (maximum : Option ℕ) {old new : List ℕ} → maximum ≡ None
    → AddsNumbers (R minimum) old new
    → AddsNumbers (λ n. Any (λ limit. R limit n) (limits_of minimum maximum)) old new
adds_minimum R minimum maximum {old = old} {new = new} none one =
    subst (λ stated. AddsNumbers (λ n. Any (λ limit. R limit n) (limits_of minimum stated)) old new) (sym none)
    (adds_more R [] minimum (adds_nothing R old) one)

pub adds_limits : (R : ℕ → ℕ → Type 0) (minimum : ℕ) (maximum : Option ℕ) (limit : ℕ) {old middle new : List ℕ} → maximum ≡ Some limit
    → AddsNumbers (R minimum) old middle → AddsNumbers (R limit) middle new
    → AddsNumbers (λ n. Any (λ x. R x n) (limits_of minimum maximum)) old new
adds_limits R minimum maximum limit {old = old} {new = new} some one other =
    subst (λ stated. AddsNumbers (λ n. Any (λ x. R x n) (limits_of minimum stated)) old new) (sym some)
    (adds_more R (minimum ∷ []) limit (adds_more R [] minimum (adds_nothing R old) one) other)
