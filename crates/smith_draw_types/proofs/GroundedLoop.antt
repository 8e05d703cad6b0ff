-- The turns of the loops over the subtypes that may be grounded.
use Rattle.smith_draw_types.proofs.Common.{[], add-one, ap, arith, Bool, cond, drop, false, filter, get_or, get_or_from_slice_get, length}
use Rattle.smith_draw_types.proofs.Common.{List, Option, refl, slice_get, slice_get-get_or, slice_get_within, Some, subst, suc, true, zero}
use Rattle.smith_draw_types.proofs.Common.{ℕ, ◌+◌, ◌-◌, ◌<◌, ◌∙◌, ◌∷◌, ◌≡◌, ◌≤◌}
use Rattle.std.proofs.Common.{drop-cons}

-- the rest of a list from a position
pub left_from : {A : Type 0} (xs : List A) (n : ℕ) (x : A) → slice_get xs n ≡ Some x → drop n xs ≡ x ∷ drop (n + 1) xs
left_from {A = A} xs n x at =
    let inside = slice_get_within xs n x at in
    let here : get_or xs n x ≡ x = get_or_from_slice_get xs n x x at in
    rw add-one (drop-cons xs n x inside ∙ ap (λ (y : A). y ∷ drop (suc n) xs) here)

module _ {A : Type 0} (test : A → Bool) (xs : List A) (n : ℕ) (x : A) (at : slice_get xs n ≡ Some x) where
  passing : (P : List A → Type 0) → test x ≡ true → P (filter test (drop n xs)) → P (x ∷ filter test (drop (n + 1) xs))
  passing P on h =
      let rest = filter test (drop (n + 1) xs) in
      subst (λ (b : Bool). P (cond b (x ∷ rest) rest)) on (subst (λ (ys : List A). P (filter test ys)) (left_from xs n x at) h)

  failing : (P : List A → Type 0) → test x ≡ false → P (filter test (drop n xs)) → P (filter test (drop (n + 1) xs))
  failing P off h =
      let rest = filter test (drop (n + 1) xs) in
      subst (λ (b : Bool). P (cond b (x ∷ rest) rest)) off (subst (λ (ys : List A). P (filter test ys)) (left_from xs n x at) h)

  -- counting the items that pass
  pub counts_one : (count total : ℕ) → test x ≡ true → count + length (filter test (drop n xs)) ≡ total
      → count + 1 + length (filter test (drop (n + 1) xs)) ≡ total
  counts_one count total on h = let one = passing (λ (ys : List A). count + length ys ≡ total) on h in omega arith

  pub counts_none : (count total : ℕ) → test x ≡ false → count + length (filter test (drop n xs)) ≡ total
      → count + length (filter test (drop (n + 1) xs)) ≡ total
  counts_none count total off h = failing (λ (ys : List A). count + length ys ≡ total) off h

  -- finding one of the items that pass
  pub found_here : (left : ℕ) → test x ≡ true → left ≡ 0 → slice_get (filter test (drop n xs)) left ≡ Some x
  found_here left on first =
      let rest = filter test (drop (n + 1) xs) in
      let all : filter test (drop n xs) ≡ x ∷ rest = ap (filter test) (left_from xs n x at) ∙ ap (λ (b : Bool). cond b (x ∷ rest) rest)
      on in
      rw first (ap (λ (ys : List A). slice_get ys 0) all)

  pub found_later : (left : ℕ) (item : Option A) → test x ≡ true → 0 < left → slice_get (filter test (drop n xs)) left ≡ item
      → slice_get (filter test (drop (n + 1) xs)) (left - 1) ≡ item
  found_later left item on some h =
      let next : left ≡ suc (left - 1) = omega arith in
      let here = passing (λ (ys : List A). slice_get ys left ≡ item) on h in
      subst (λ (m : ℕ). slice_get (x ∷ filter test (drop (n + 1) xs)) m ≡ item) next here

  pub found_further : (left : ℕ) (item : Option A) → test x ≡ false → slice_get (filter test (drop n xs)) left ≡ item
      → slice_get (filter test (drop (n + 1) xs)) left ≡ item
  found_further left item off h = failing (λ (ys : List A). slice_get ys left ≡ item) off h

-- nothing remains at the end
pub none_left : {A : Type 0} (xs : List A) (n : ℕ) → length xs ≤ n → drop n xs ≡ []
none_left [] zero le = refl
none_left [] (suc n) le = refl
none_left (x ∷ xs) zero le = absurd (omega arith)
none_left (x ∷ xs) (suc n) le = none_left xs n (omega arith)

pub all_counted : {A : Type 0} (test : A → Bool) (xs : List A) (n count total : ℕ) → length xs ≤ n
    → count + length (filter test (drop n xs)) ≡ total → count ≡ total
all_counted {A = A} test xs n count total le h =
    let all = subst (λ (ys : List A). count + length (filter test ys) ≡ total) (none_left xs n le) h in
    omega arith

pub never_missed : {A : Type 0} (test : A → Bool) (xs all : List A) (n left place : ℕ) (d : A) → length xs ≤ n → place < length all
    → slice_get (filter test (drop n xs)) left ≡ slice_get all place → ⊥
never_missed {A = A} test xs all n left place d le inside h =
    let none = subst (λ (ys : List A). slice_get (filter test ys) left ≡ slice_get all place) (none_left xs n le) h in
    let some = slice_get-get_or all place d inside in
    cc
