-- A property of each item of a list, with its place.
use Rattle.smith_types.proofs.Common.{[], List, refl, same_Some, slice_get, Some, subst, suc, zero, ℕ, ◌∷◌, ◌≡◌}
use Rattle.smith_types.specs.Exports.{AreDistinct}

-- the items of a list, of which the first has this place, one by one
abbrev pub EachFrom : {A : Type 0} → (ℕ → A → Type 0) → ℕ → List A → Type 0
EachFrom P start [] = Unit {0}
EachFrom P start (x ∷ xs) = P start x × EachFrom P (suc start) xs

pub each_place : {A : Type 0} (P : ℕ → A → Type 0) (xs : List A) → EachFrom P 0 xs → (place : ℕ) (x : A) → slice_get xs place ≡ Some x
    → P place x
each_place P [] each place x at = cc at
each_place P (y ∷ ys) each zero x at = subst (P 0) (same_Some y x at) each.0
each_place P (y ∷ ys) each (suc place) x at = each_place (λ k. P (suc k)) ys (moved P ys 0 each.1) place x at
  where
    moved : {A : Type 0} (P : ℕ → A → Type 0) (xs : List A) (start : ℕ) → EachFrom P (suc start) xs → EachFrom (λ k. P (suc k)) start xs
    moved P [] start each = tt
    moved P (x ∷ xs) start each = (each.0, moved P xs (suc start) each.1)

-- one item alone is distinct
pub distinct_alone : {A : Type 0} (x : A) → AreDistinct (x ∷ [])
distinct_alone x = record { once = same }
  where
    same : (i j : ℕ) (item : _) → slice_get (x ∷ []) i ≡ Some item → slice_get (x ∷ []) j ≡ Some item → i ≡ j
    same zero zero item at also = refl
    same zero (suc j) item at also = cc also
    same (suc i) j item at also = cc at
