-- Offered indices, as more are offered or left out.
use Rattle.smith_draw_contents.proofs.Common.{[], All, All-head, arith, false, get_or, get_or_from_slice_get, inl, inr, length}
use Rattle.smith_draw_contents.proofs.Common.{length-append, List, nat_le, refl, slice_get, Some, subst, suc, sym, true, zero, ℕ, ◌++◌, ◌+◌}
use Rattle.smith_draw_contents.proofs.Common.{◌<◌, ◌∷◌, ◌≡◌, ◌≤◌}
use Rattle.std.proofs.Common.{◌⊎◌}
use Rattle.std.proofs.Common.{add-one}
use Rattle.std.specs.List.{AllWithin}
use Rattle.std.specs.List.Sorted.{IsPartitionPoint}
use Rattle.std.proofs.lemmas.Bool.{le-leb}
use Rattle.std.proofs.lemmas.Bool.Decides.{leb_tells}
use Rattle.std.proofs.lemmas.List.Elements.{All-tail}
use Rattle.smith_types.proofs.ListLemmas.{slice_get-last, slice_get-grown}
use Rattle.smith_draw_contents.specs.OfferedIndices.{count_up_to, first_offered, indices_beside, AreSkipped}

pub length_offered : (skipped : List ℕ) (count : ℕ) → length (first_offered skipped count) ≡ count
length_offered skipped zero = refl
length_offered skipped (suc count) = simp length-append (omega (arith, length_offered skipped count))

last_or_before : (n m : ℕ) → n < suc m → (n < m) ⊎ (n ≡ m)
last_or_before n m h = elim (leb_tells m n) [ inl at_least ↦ inr (omega (arith, at_least)) | inr below ↦ inl (omega (arith, below)) ]

-- the offered index at a place comes after those that are left out before it
offered_at : (skipped : List ℕ) (count place : ℕ) → place < count → slice_get (first_offered skipped count) place
    ≡ Some (place + count_up_to place skipped)
offered_at skipped zero place inside = absurd (omega arith)
offered_at skipped (suc count) place inside =
    let index = λ (n : ℕ). n + count_up_to n skipped in
    elim (last_or_before place count inside) [
      | inl before ↦ slice_get-grown (first_offered skipped count) (index count ∷ []) place (index place)
          (offered_at skipped count place before)
      | inr last ↦
          let here : slice_get (first_offered skipped count ++ index count ∷ []) count ≡ Some (index count) =
          rw length_offered at (slice_get-last (first_offered skipped count) (index count)) in
          subst (λ (n : ℕ). slice_get (first_offered skipped count ++ index count ∷ []) n ≡ Some (index n)) (sym last) here
    ]

-- all numbers that are no greater are counted
count_all : (most : ℕ) (numbers : List ℕ) → All (λ x. x ≤ most) numbers → count_up_to most numbers ≡ length numbers
count_all most [] all = refl
count_all most (x ∷ numbers) all =
    let first : nat_le x most ≡ true = le-leb x most (All-head (λ y. y ≤ most) x numbers all) in
    let rest = count_all most numbers (All-tail (λ y. y ≤ most) x numbers all) in
    rw first (omega (arith, rest))

not_le : (n k : ℕ) → k < n → nat_le n k ≡ false
not_le n k less = elim (leb_tells n k) [ inl never ↦ absurd (omega (arith, never)) | inr (above, under) ↦ above ]

-- a greater number after these is not counted
count_other : (n most : ℕ) (numbers : List ℕ) → most < n → count_up_to most (numbers ++ n ∷ []) ≡ count_up_to most numbers
count_other n most [] above = rw (not_le n most above) refl
count_other n most (x ∷ numbers) above = rw (count_other n most numbers above) refl

-- leaving out an index after all offered ones moves none of them
offered_same : (skipped : List ℕ) (end count : ℕ) → count ≤ end → first_offered (skipped ++ end ∷ []) count ≡ first_offered skipped count
offered_same skipped end zero few = refl
offered_same skipped end (suc count) few = rw (offered_same skipped end count (omega arith), count_other end count skipped (omega arith))
    refl

-- if a list is divided at a place, the number of counted items is that place
count_divided : (most : ℕ) (numbers : List ℕ) (n : ℕ) → n ≤ length numbers → AllWithin (λ x. nat_le x most ≡ true) numbers 0 n
    → AllWithin (λ x. nat_le x most ≡ false) numbers n (length numbers) → count_up_to most numbers ≡ n
count_divided most [] n few before following = omega arith
count_divided most (x ∷ numbers) zero few before following =
    let first : nat_le x most ≡ false = following 0 x (omega arith) (omega arith) in
    let rest = count_divided most numbers 0 (omega arith) (λ k d low high. absurd (omega arith))
    (λ k d low high. following (suc k) d (omega arith) (omega arith)) in
    rw first rest
count_divided most (x ∷ numbers) (suc n) few before following =
    let first : nat_le x most ≡ true = before 0 x (omega arith) (omega arith) in
    let rest = count_divided most numbers n (omega arith) (λ k d low high. before (suc k) d (omega arith) (omega arith))
    (λ k d low high. following (suc k) d (omega arith) (omega arith)) in
    rw first (omega (arith, rest))

module _ (count : ℕ) (skipped : List ℕ) (now : AreSkipped count skipped) where
  -- one more index is offered
  pub one_offered : indices_beside (count + 1) skipped ≡ record {
    end = count + length skipped + 1;
    offered = first_offered skipped count ++
        (count + length skipped) ∷ [];
  }
  one_offered =
      let end : suc count + length skipped ≡ count + length skipped + 1 = omega arith in
      rw (add-one count, count_all count skipped now.below, end) refl

  -- one more is left out
  pub one_left_out : (longer : List ℕ) → longer ≡ skipped ++ count ∷ [] → indices_beside count longer
      ≡ record { end = count + length skipped + 1; offered = first_offered skipped count }
  one_left_out longer same =
      let end : count + (length skipped + 1) ≡ count + length skipped + 1 = omega arith in
      rw (same, offered_same skipped count count (omega arith), length-append) (rw end refl)

  -- the offered index at a place
  pub found_at : (place below : ℕ) → place < count → below ≤ length skipped → IsPartitionPoint (λ x. nat_le x place ≡ true)
      (λ x. nat_le x place ≡ false) skipped below → place + below ≡ get_or (first_offered skipped count) place 0
  found_at place below inside few divided =
      let here : slice_get (first_offered skipped count) place ≡ Some (place + below) =
      rw (← count_divided place skipped below few divided.0 divided.1) (offered_at skipped count place inside) in
      sym (get_or_from_slice_get (first_offered skipped count) place (place + below) 0 here)
