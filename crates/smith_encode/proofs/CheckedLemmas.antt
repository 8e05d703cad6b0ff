-- Lists whose items all pass a test.
use Rattle.smith_encode.proofs.Common.{[], and_parts, Bool, Each, IsList, List, list_all, true, ℕ, ◌∷◌, ◌≡◌}
use Rattle.smith_encode.specs.Spelled.{IfPasses}

each_passes : {A : Type 0} (passes : A → Bool) (P : A → List ℕ → Type 0) (xs : List A) (piece : List ℕ) → list_all passes xs ≡ true
    → Each (IfPasses passes P) xs piece → Each P xs piece
unfolding Each
each_passes passes P [] piece all h = h
each_passes passes P (x ∷ xs) piece all h =
    let (first, others) = and_parts (passes x) (list_all passes xs) all in
    record {
      first = h.first;
      second = h.second;
      is_first = h.is_first first;
      is_second = each_passes passes P xs h.second others h.is_second;
      whole = h.whole;
    }

pub list_passes : {A : Type 0} (passes : A → Bool) (P : A → List ℕ → Type 0) (xs : List A) (piece : List ℕ) → list_all passes xs ≡ true
    → IsList (IfPasses passes P) xs piece → IsList P xs piece
list_passes passes P xs piece all h = record {
  first = h.first;
  second = h.second;
  is_first = h.is_first;
  is_second = each_passes passes P xs h.second all h.is_second;
  whole = h.whole;
}
