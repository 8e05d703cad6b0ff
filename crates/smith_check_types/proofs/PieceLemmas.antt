-- Numbers of lists, piece by piece.
use Rattle.std.proofs.Common.{◌≡◌, ℕ, ◌≤◌, List, [], ◌∷◌, ◌++◌, length, take, map, refl, sym, ap, ◌∙◌, append_assoc, arith}
use Rattle.std.specs.List.{flat_map}
use Rattle.std.proofs.lemmas.List.{take_all, length-map}
use Rattle.std.proofs.lemmas.List.Folds.{flat_map-map}

-- the numbers of all items, from those of the first so many
pub pieces_all : {A B : Type 0} (codes : B → List ℕ) (name : A → B) (xs : List A) (n : ℕ) → length xs ≤ n
    → flat_map (λ x. codes (name x)) (take n xs) ≡ flat_map codes (map name xs)
pieces_all codes name xs n past = ap (flat_map (λ x. codes (name x))) (take_all n xs past) ∙ sym (flat_map-map codes name xs)

-- the same after the number of items
pub pieces_whole : {A B : Type 0} (codes : B → List ℕ) (name : A → B) (xs : List A) (n : ℕ) (start after all : List ℕ) → length xs ≤ n
    → after ≡ start ++ length xs ∷ [] → all ≡ after ++ flat_map (λ x. codes (name x)) (take n xs)
    → all ≡ start ++ (length (map name xs) ∷ flat_map codes (map name xs))
pieces_whole codes name xs n start after all past counted is =
    is ∙ ap (λ (l : List ℕ). after ++ l) (pieces_all codes name xs n past)
    ∙ ap (λ (l : List ℕ). l ++ flat_map codes (map name xs)) counted
    ∙ append_assoc start (length xs ∷ []) (flat_map codes (map name xs))
    ∙ ap (λ (m : ℕ). start ++ (m ∷ flat_map codes (map name xs))) (sym (length-map xs name))
