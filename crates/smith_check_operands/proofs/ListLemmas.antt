-- Lists that are split in two.
use Rattle.smith_check_operands.proofs.Common.{[], All, ap, arith, drop, length, length-append, List, refl, subst, sym, take, ◌++◌, ◌∙◌}
use Rattle.smith_check_operands.proofs.Common.{◌∷◌, ◌≡◌}
use Rattle.std.specs.List.{AllZip}
use Rattle.std.proofs.lemmas.List.Elements.{All-take, All-drop}
use Rattle.std.proofs.Math.Seq.{take-append_seam, drop-append_seam}

same_length : {A : Type 0} (a c b d : List A) → a ++ b ≡ c ++ d → length b ≡ length d → length a ≡ length c
same_length a c b d e n =
    let whole : length (a ++ b) ≡ length (c ++ d) = ap (λ xs. length xs) e in
    omega (arith, length-append a b, length-append c d)

pub left_part : {A : Type 0} (a c b d : List A) → a ++ b ≡ c ++ d → length b ≡ length d → a ≡ c
left_part a c b d e n =
    sym (take-append_seam a b) ∙ ap (λ xs. take (length a) xs) e ∙ ap (λ k. take k (c ++ d)) (same_length a c b d e n)
    ∙ take-append_seam c d

pub right_part : {A : Type 0} (a c b d : List A) → a ++ b ≡ c ++ d → length b ≡ length d → b ≡ d
right_part a c b d e n =
    sym (drop-append_seam a b) ∙ ap (λ xs. drop (length a) xs) e ∙ ap (λ k. drop k (c ++ d)) (same_length a c b d e n)
    ∙ drop-append_seam c d

pub all_left : {A : Type 0} (P : A → Type 0) (xs ys : List A) → All P (xs ++ ys) → All P xs
all_left P xs ys all = subst (λ zs. All P zs) (take-append_seam xs ys) (All-take P (length xs) (xs ++ ys) all)

pub all_right : {A : Type 0} (P : A → Type 0) (xs ys : List A) → All P (xs ++ ys) → All P ys
all_right P xs ys all = subst (λ zs. All P zs) (drop-append_seam xs ys) (All-drop P (length xs) (xs ++ ys) all)

-- values that match others, split as the others are
pub zip_parts : {A : Type 0} (R : A → A → Type 0) (xs base top : List A) → AllZip R xs (base ++ top)
    → (front : List A) × (rest : List A) × (xs ≡ front ++ rest) × AllZip R front base × AllZip R rest top
zip_parts R xs [] top below = ([], xs, refl, tt, below)
zip_parts R [] (b ∷ base) top below = absurd below
zip_parts R (x ∷ xs) (b ∷ base) top (first, below) =
    let (front, rest, is, left, right) = zip_parts R xs base top below in
    (x ∷ front, rest, ap (λ ys. x ∷ ys) is, (first, left), right)

-- values that others match, split as the others are
pub zip_split : {A : Type 0} (R : A → A → Type 0) (base top ys : List A) → AllZip R (base ++ top) ys
    → (front : List A) × (rest : List A) × (ys ≡ front ++ rest) × AllZip R base front × AllZip R top rest
zip_split R [] top ys below = ([], ys, refl, tt, below)
zip_split R (b ∷ base) top [] below = absurd below
zip_split R (b ∷ base) top (y ∷ ys) (first, below) =
    let (front, rest, is, left, right) = zip_split R base top ys below in
    (y ∷ front, rest, ap (λ zs. y ∷ zs) is, (first, left), right)

pub zip_join : {A : Type 0} (R : A → A → Type 0) (xs ys base top : List A) → AllZip R xs base → AllZip R ys top
    → AllZip R (xs ++ ys) (base ++ top)
zip_join R [] ys [] top left right = right
zip_join R [] ys (b ∷ base) top left right = absurd left
zip_join R (x ∷ xs) ys [] top left right = absurd left
zip_join R (x ∷ xs) ys (b ∷ base) top (first, left) right = (first, zip_join R xs ys base top left right)
