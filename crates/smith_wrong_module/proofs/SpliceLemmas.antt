use Rattle.std.proofs.Common.{◌≡◌, Bool, true, false, MatchBool, ◌≤◌, ◌<◌, ℕ, zero, suc}
use Rattle.std.proofs.Common.{List, [], ◌∷◌, ◌++◌, length, take, drop, set, insert, remove, get_or, refl, sym, ap, subst, ◌∙◌, arith}
use Rattle.std.proofs.lemmas.List.{take-append-drop, length-take-le}
use Rattle.std.proofs.Math.Seq.{split_at, set_split}
use Rattle.smith_wrong_module.specs.Splices.{DifferAt, AtMostOne, OneItem}

-- a list with one item more
pub inserts : {A : Type 0} (xs : List A) (i : ℕ) (x : A) → i ≤ length xs → DifferAt AtMostOne i xs (insert xs i x)
inserts xs i x within = record {
  before = take i xs;
  piece = [];
  changed = x ∷ [];
  after = drop i xs;
  old_parts = sym (take-append-drop i xs);
  new_parts = refl;
  place = length-take-le i xs within;
  differ = (omega arith, omega arith);
}

-- a list with one item less
pub removes : {A : Type 0} (xs : List A) (i : ℕ) (d : A) → i < length xs → DifferAt AtMostOne i xs (remove xs i)
removes xs i d within = record {
  before = take i xs;
  piece = get_or xs i d ∷ [];
  changed = [];
  after = drop (suc i) xs;
  old_parts = split_at xs i d within;
  new_parts = refl;
  place = length-take-le i xs (omega (arith, within));
  differ = (omega arith, omega arith);
}

-- a list with another item
pub replaces : {A : Type 0} (xs : List A) (i : ℕ) (x : A) → i < length xs → DifferAt AtMostOne i xs (set xs i x)
replaces xs i x within = record {
  before = take i xs;
  piece = get_or xs i x ∷ [];
  changed = x ∷ [];
  after = drop (suc i) xs;
  old_parts = split_at xs i x within;
  new_parts = set_split xs i x within;
  place = length-take-le i xs (omega (arith, within));
  differ = (omega arith, omega arith);
}

-- an item that is put where one was taken out stands in its place
pub insert-remove : {A : Type 0} (xs : List A) (i : ℕ) (y : A) → i < length xs → insert (remove xs i) i y ≡ set xs i y
insert-remove [] i y within = absurd (omega (arith, within))
insert-remove (x ∷ xs) zero y within = refl
insert-remove (x ∷ xs) (suc i) y within = ap (λ l. x ∷ l) (insert-remove xs i y (omega (arith, within)))

-- a list where an item was taken out and another one put
pub changes : {A : Type 0} (xs rest ys : List A) (i : ℕ) (y : A) → i < length xs → rest ≡ remove xs i → ys ≡ insert rest i y
    → DifferAt AtMostOne i xs ys
changes xs rest ys i y within taken put = subst (λ l. DifferAt AtMostOne i xs l)
    (sym (put ∙ ap (λ l. insert l i y) taken ∙ insert-remove xs i y within))
    (replaces xs i y within)

-- a list where an item was taken out and put in again, after a change by a relation
pub differs : {A : Type 0} (R : A → A → Type 0) (xs rest ys : List A) (i : ℕ) (x y : A) → i < length xs → x ≡ get_or xs i x
    → rest ≡ remove xs i → ys ≡ insert rest i y → R x y → DifferAt (OneItem R) i xs ys
differs R xs rest ys i x y within is taken put differ = record {
  before = take i xs;
  piece = get_or xs i x ∷ [];
  changed = y ∷ [];
  after = drop (suc i) xs;
  old_parts = split_at xs i x within;
  new_parts = put ∙ ap (λ l. insert l i y) taken ∙ insert-remove xs i y within ∙ set_split xs i y within;
  place = length-take-le i xs (omega (arith, within));
  differ = subst (λ z. R z y) is differ;
}

-- a list where an item was taken out and put in again
pub stays : {A : Type 0} (xs rest ys : List A) (i : ℕ) (x y : A) → i < length xs → x ≡ get_or xs i x → rest ≡ remove xs i
    → y ≡ x → ys ≡ insert rest i y → ys ≡ xs
stays xs rest ys i x y within is taken same put = put ∙ ap (λ l. insert l i y) taken ∙ insert-remove xs i y within
    ∙ set_split xs i y within ∙ ap (λ z. take i xs ++ z ∷ drop (suc i) xs) (same ∙ is) ∙ sym (split_at xs i x within)

-- what holds of an edit that was made, and of one that wasn't
pub made : (P Q : Type 0) (done : Bool) → done ≡ true → MatchBool done P Q → P
made P Q done is fact = subst (λ b. MatchBool b P Q) is fact

pub not_made : (P Q : Type 0) (done : Bool) → done ≡ false → MatchBool done P Q → Q
not_made P Q done is fact = subst (λ b. MatchBool b P Q) is fact
