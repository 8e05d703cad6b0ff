-- Lists without repeated items.
use Rattle.smith_types.proofs.Common.{[], inl, inr, length, List, slice_get, sym, ℕ, ◌++◌, ◌∙◌, ◌∷◌, ◌≡◌, ◌⊎◌}
use Rattle.std.specs.Prelude.{Some}
use Rattle.smith_types.specs.Exports.{AreDistinct}
use Rattle.smith_types.proofs.ListLemmas.{slice_get-push}

both_places : {A : Type 0} (xs : List A) (x : A) (i j : ℕ) (item : A) → AreDistinct xs → ((n : ℕ) → slice_get xs n ≡ Some x → ⊥)
    → (slice_get xs i ≡ Some item) ⊎ ((i ≡ length xs) × (x ≡ item)) → (slice_get xs j ≡ Some item) ⊎ ((j ≡ length xs) × (x ≡ item)) → i ≡ j
both_places xs x i j item old apart (inl at_i) (inl at_j) = old.once i j item at_i at_j
both_places xs x i j item old apart (inl at_i) (inr (is_j, same)) = absurd (apart i (rw same at_i))
both_places xs x i j item old apart (inr (is_i, same)) (inl at_j) = absurd (apart j (rw same at_j))
both_places xs x i j item old apart (inr (is_i, same)) (inr (is_j, other)) = is_i ∙ sym is_j

pub distinct_push : {A : Type 0} (xs : List A) (x : A) → AreDistinct xs → ((i : ℕ) → slice_get xs i ≡ Some x → ⊥)
    → AreDistinct (xs ++ x ∷ [])
distinct_push xs x old apart = record {
  once = λ i j item at_i at_j. both_places xs x i j item old apart (slice_get-push xs x i item at_i)
      (slice_get-push xs x j item at_j);
}
