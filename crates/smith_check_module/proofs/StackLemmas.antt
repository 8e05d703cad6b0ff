-- Stacks in two parts.
use Rattle.smith_check_module.proofs.Common.{[], AllZip, ap, arith, Bool, drop, false, false≢true, get_or, length, length-append, List}
use Rattle.smith_check_module.proofs.Common.{refl, suc, sym, take, true, ℕ, ◌++◌, ◌-◌, ◌<◌, ◌∙◌, ◌∷◌, ◌≡◌}
use Rattle.std.specs.Prelude.{◌==◌}
use Rattle.std.proofs.lemmas.Bool.Decides.{Decides-eqb}
use Rattle.std.proofs.lemmas.List.{take_all}
use Rattle.std.proofs.Math.Seq.{take-append_seam, drop-append_seam, take-suc}

same_length : {A : Type 0} (a c b d : List A) → a ++ b ≡ c ++ d → length b ≡ length d → length a ≡ length c
same_length a c b d e n =
    let whole : length (a ++ b) ≡ length (c ++ d) = ap (λ xs. length xs) e in
    omega (arith, length-append a b, length-append c d)

pub left_part : {A : Type 0} (a c b d : List A) → a ++ b ≡ c ++ d → length b ≡ length d → a ≡ c
left_part a c b d e n =
    sym (take-append_seam a b) ∙ ap (λ xs. take (length a) xs) e ∙ ap (λ k. take k (c ++ d)) (same_length a c b d e n)
    ∙ take-append_seam c d

pub right_part : {A : Type 0} (a c b d : List A) → a ++ b ≡ c ++ d → length b ≡ length d → b ≡ d
right_part a c b d e n =
    sym (drop-append_seam a b) ∙ ap (λ xs. drop (length a) xs) e ∙ ap (λ k. drop k (c ++ d)) (same_length a c b d e n)
    ∙ drop-append_seam c d

-- whether a length is tested to be zero
pub is_none : (n : ℕ) (b : Bool) → b ≡ (n == 0) → b ≡ true → n ≡ 0
is_none n b tested holds = (Decides-eqb n 0).0 (sym tested ∙ holds)

pub is_some : (n : ℕ) (b : Bool) → b ≡ (n == 0) → b ≡ false → 0 < n
is_some n b tested fails =
    let other : n ≡ 0 → ⊥ = λ none. false≢true (sym fails ∙ tested ∙ (Decides-eqb n 0).1 none) in omega arith

-- a list that is not empty ends in its last item
pub ends_in : {A : Type 0} (xs : List A) (x d : A) → 0 < length xs → get_or xs (length xs - 1) d ≡ x
    → xs ≡ take (length xs - 1) xs ++ x ∷ []
ends_in xs x d some read =
    let n = length xs - 1 in
    let count : length xs ≡ suc n = omega (arith, some) in
    sym (take_all (length xs) xs (omega arith)) ∙ ap (λ k. take k xs) count ∙ take-suc xs n d (omega (arith, some))
    ∙ ap (λ y. take n xs ++ y ∷ []) read

-- values that others match, split as the others are
pub zip_parts : {A : Type 0} (R : A → A → Type 0) (xs base top : List A) → AllZip R xs (base ++ top)
    → (front : List A) × (rest : List A) × (xs ≡ front ++ rest) × AllZip R front base × AllZip R rest top
zip_parts R xs [] top below = ([], xs, refl, tt, below)
zip_parts R [] (b ∷ base) top below = absurd below
zip_parts R (x ∷ xs) (b ∷ base) top (first, below) =
    let (front, rest, is, left, right) = zip_parts R xs base top below in
    (x ∷ front, rest, ap (λ ys. x ∷ ys) is, (first, left), right)

pub zip_itself : {A : Type 0} (R : A → A → Type 0) → ((x : A) → R x x) → (xs : List A) → AllZip R xs xs
zip_itself R same [] = tt
zip_itself R same (x ∷ xs) = (same x, zip_itself R same xs)

pub zip_through : {A : Type 0} (R : A → A → Type 0) → ((x y z : A) → R x y → R y z → R x z) → (xs ys zs : List A)
    → AllZip R xs ys → AllZip R ys zs → AllZip R xs zs
zip_through R both [] [] zs first second = second
zip_through R both [] (y ∷ ys) zs first second = absurd first
zip_through R both (x ∷ xs) [] zs first second = absurd first
zip_through R both (x ∷ xs) (y ∷ ys) [] first second = absurd second
zip_through R both (x ∷ xs) (y ∷ ys) (z ∷ zs) (p, first) (q, second) = (both x y z p q, zip_through R both xs ys zs first second)
