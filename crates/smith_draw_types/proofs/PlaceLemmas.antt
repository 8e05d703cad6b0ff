-- The positions of the items of a list that pass a test.
use Rattle.smith_draw_types.proofs.Common.{[], ap, Bool, false, length, List, refl, suc, true, ℕ, ◌∙◌, ◌∷◌, ◌≡◌}
use Rattle.std.proofs.Common.{count_by}
use Rattle.std.specs.List.{filter}
use Rattle.std.proofs.lemmas.List.Sums.{length-filter}
use Rattle.smith_draw_types.specs.TypeUses.{places_from}

one_more : {A : Type 0} (test : A → Bool) (b : Bool) (n : ℕ) (x : A) (xs : List A) → test x ≡ b → length (places_from test (suc n) xs)
    ≡ length (filter test xs) → length (places_from test n (x ∷ xs)) ≡ length (filter test (x ∷ xs))
one_more test true n x xs on rest = rw on (ap suc rest)
one_more test false n x xs on rest = rw on rest

as_filtered : {A : Type 0} (test : A → Bool) (n : ℕ) (xs : List A) → length (places_from test n xs) ≡ length (filter test xs)
as_filtered test n [] = refl
as_filtered test n (x ∷ xs) = one_more test (test x) n x xs refl (as_filtered test (suc n) xs)

-- as many positions as items that pass
pub length_places : {A : Type 0} (test : A → Bool) (n : ℕ) (xs : List A) → length (places_from test n xs) ≡ count_by test xs
length_places test n xs = as_filtered test n xs ∙ length-filter test xs
