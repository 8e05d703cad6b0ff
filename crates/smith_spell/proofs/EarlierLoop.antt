-- The walk over groups, and the types after them, to the type with an index.
use Rattle.smith_spell.proofs.Common.{[], ap, append_assoc, arith, drop, drop_of_length-le, get_or, length, length-append, List, slice_get}
use Rattle.smith_spell.proofs.Common.{Some, subst, SubType, suc, sym, zero, ℕ, ◌++◌, ◌+◌, ◌-◌, ◌<◌, ◌∙◌, ◌∷◌, ◌≡◌, ◌≤◌}
use Rattle.std.proofs.Common.{Option}
use Rattle.smith_types.proofs.ListLemmas.{slice_get-grown}
use Rattle.smith_spell.proofs.GroupsWrittenLoop.{at_place}
use Rattle.smith_spell.proofs.MemberLemmas.{all_types, from_place}

after_front : {A : Type 0} (front xs : List A) (n : ℕ) → length front ≤ n → slice_get (front ++ xs) n ≡ slice_get xs (n - length front)
after_front [] xs n past = let same : n ≡ n - 0 = omega arith in ap (λ (k : ℕ). slice_get xs k) same
after_front (x ∷ front) xs zero past = absurd (omega arith)
after_front (x ∷ front) xs (suc n) past = let same : n - length front ≡ suc n - suc (length front) = omega arith in
    after_front front xs n (omega arith) ∙ ap (λ (k : ℕ). slice_get xs k) same

module _ (groups : List (List SubType)) (group : List SubType) (i place : ℕ) (at : Option SubType)
    (so_far : slice_get (all_types (drop i groups) ++ group) place ≡ at) where
  module _ (one other : List SubType) (inside : i < length groups) (read : one ≡ get_or groups i other) where
    apart : all_types (drop i groups) ++ group ≡ one ++ (all_types (drop (i + 1) groups) ++ group)
    apart = ap (λ (list : List SubType). list ++ group) (from_place groups i one other inside read) ∙ append_assoc one
        (all_types (drop (i + 1) groups)) group

    -- after a group
    pub walked_within : length one ≤ place → place < length (all_types (drop i groups) ++ group)
        → place - length one < length (all_types (drop (i + 1) groups) ++ group)
    walked_within past within =
        let all = ap length apart in
        let parts = length-append one (all_types (drop (i + 1) groups) ++ group) in
        omega (arith, all, parts, within)

    pub walked_on : length one ≤ place → slice_get (all_types (drop (i + 1) groups) ++ group) (place - length one) ≡ at
    walked_on past = sym (after_front one (all_types (drop (i + 1) groups) ++ group) place past)
        ∙ (sym (ap (λ (list : List SubType). slice_get list place) apart) ∙ so_far)

    -- in a group
    pub found_in_group : (t d : SubType) → place < length one → t ≡ get_or one place d → at ≡ Some t
    found_in_group t d within is =
        sym so_far ∙ (ap (λ (list : List SubType). slice_get list place) apart
        ∙ (slice_get-grown one (all_types (drop (i + 1) groups) ++ group) place (get_or one place d) (at_place one place d within)
        ∙ ap Some (sym is)))

  -- after all groups
  pub found_after : (t d : SubType) → length groups ≤ i → place < length (all_types (drop i groups) ++ group) → t ≡ get_or group place d
      → at ≡ Some t
  found_after t d past within is =
      let none : drop i groups ≡ [] = drop_of_length-le groups past in
      let left : all_types (drop i groups) ++ group ≡ group = ap (λ (list : List (List SubType)). all_types list ++ group) none in
      sym so_far ∙ (ap (λ (list : List SubType). slice_get list place) left
      ∙ (at_place group place d (subst (λ (list : List SubType). place < length list) left within) ∙ ap Some (sym is)))
