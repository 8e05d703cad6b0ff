-- Positions of items in a list that grows at its end.
use Rattle.smith_types.proofs.Common.{[], ap, arith, get_or, inl, inr, length, List, refl, slice_get, Some, suc, sym, take, take_all, zero}
use Rattle.smith_types.proofs.Common.{ℕ, ◌++◌, ◌+◌, ◌<◌, ◌∙◌, ◌∷◌, ◌≡◌, ◌⊎◌}
use Rattle.std.specs.Prelude.{map}
use Rattle.std.specs.List.{AllZip}
use Rattle.std.proofs.lemmas.List.{get_or-append-add, take-append-le}

-- an item keeps its position when items are appended
pub slice_get-grown : {A : Type 0} (xs more : List A) (i : ℕ) (x : A) → slice_get xs i ≡ Some x → slice_get (xs ++ more) i ≡ Some x
slice_get-grown [] more i x at = cc
slice_get-grown (y ∷ xs) more zero x at = at
slice_get-grown (y ∷ xs) more (suc i) x at = slice_get-grown xs more i x at

-- an appended item is at the end
pub slice_get-last : {A : Type 0} (xs : List A) (x : A) → slice_get (xs ++ x ∷ []) (length xs) ≡ Some x
slice_get-last [] x = refl
slice_get-last (y ∷ xs) x = slice_get-last xs x

-- an item of a list with one more item was there before or is the appended one
pub slice_get-push : {A : Type 0} (xs : List A) (y : A) (i : ℕ) (x : A) → slice_get (xs ++ y ∷ []) i ≡ Some x → (slice_get xs i ≡ Some x)
    ⊎ ((i ≡ length xs) × (y ≡ x))
slice_get-push [] y zero x at = inr (refl, cc)
slice_get-push [] y (suc i) x at = cc
slice_get-push (z ∷ xs) y zero x at = inl at
slice_get-push (z ∷ xs) y (suc i) x at = elim (slice_get-push xs y i x at) [ inl old ↦ inl old | inr (is, same) ↦ inr (ap suc is, same) ]

-- an item before the end of the first of two lists is in the first
pub slice_get-front : {A : Type 0} (xs more : List A) (i : ℕ) (x : A) → i < length xs → slice_get (xs ++ more) i ≡ Some x
    → slice_get xs i ≡ Some x
slice_get-front [] more i x inside at = absurd (omega arith)
slice_get-front (y ∷ xs) more zero x inside at = at
slice_get-front (y ∷ xs) more (suc i) x inside at = slice_get-front xs more i x (omega arith) at

-- the prefix of a list with one more item, in the form of the code
pub push_front : {A : Type 0} (xs : List A) (x : A) (seen all : List A) (n : ℕ) → seen ≡ all → all ≡ xs ++ x ∷ [] → n ≡ length xs
    → take n seen ≡ xs
push_front xs x seen all n same is count = rw (same, is, count) (take-append-le (length xs) xs (x ∷ []) (omega arith)
    ∙ take_all (length xs) xs (omega arith))

-- the whole list with one more item, in the form of the code
pub push_whole : {A : Type 0} (xs : List A) (x : A) (seen all : List A) (n : ℕ) (last d : A) → seen ≡ all → all ≡ xs ++ x ∷ []
    → n ≡ length xs → last ≡ get_or all n d → take n seen ++ last ∷ [] ≡ all
push_whole xs x seen all n last d same is count read =
    let end : n ≡ length xs + 0 = omega (arith, count) in
    let item : last ≡ x = read ∙ ap (λ l. get_or l n d) is ∙ ap (λ m. get_or (xs ++ x ∷ []) m d) end ∙ get_or-append-add xs (x ∷ []) 0 d in
    rw (push_front xs x seen all n same is count, item) (sym is)

-- a relation between two lists, position by position, implies a weaker one
pub AllZip-weaker : {A B : Type 0} (R S : A → B → Type 0) → ((x : A) (y : B) → R x y → S x y) → (xs : List A) (ys : List B) → AllZip R xs ys
    → AllZip S xs ys
AllZip-weaker R S weaker [] [] h = tt
AllZip-weaker R S weaker [] (y ∷ ys) h = absurd h
AllZip-weaker R S weaker (x ∷ xs) [] h = absurd h
AllZip-weaker R S weaker (x ∷ xs) (y ∷ ys) (p, q) = (weaker x y p, AllZip-weaker R S weaker xs ys q)

pub mapped_at : {A B : Type 0} {f : A → B} (xs : List A) (i : ℕ) (y : B) → slice_get (map f xs) i ≡ Some y
    → (x : A) × (slice_get xs i ≡ Some x) × (f x ≡ y)
mapped_at [] i y at = absurd cc
mapped_at {f = f} (x ∷ xs) zero y at = (x, refl, cc)
mapped_at {f = f} (x ∷ xs) (suc i) y at = mapped_at xs i y at

-- an item after the end of the first of two lists is in the second
pub slice_get-after : {A : Type 0} (xs ys : List A) (i : ℕ) → slice_get (xs ++ ys) (length xs + i) ≡ slice_get ys i
slice_get-after {A = A} [] ys i = let none : length {A = A} [] + i ≡ i = omega arith in rw none refl
slice_get-after (x ∷ xs) ys i = let one : length (x ∷ xs) + i ≡ suc (length xs + i) = omega arith in rw one (slice_get-after xs ys i)
