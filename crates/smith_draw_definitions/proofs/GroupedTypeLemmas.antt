-- A type among types in groups is found by a walk over the groups.
use Rattle.smith_draw_definitions.proofs.Common.{[], ap, arith, drop, length, List, refl, slice_get, Some, SubType, suc, sym, zero, ℕ, ◌++◌}
use Rattle.smith_draw_definitions.proofs.Common.{◌+◌, ◌-◌, ◌<◌, ◌∙◌, ◌∷◌, ◌≡◌, ◌≤◌}
use Rattle.std.proofs.Common.{get_or}
use Rattle.std.specs.List.{flat_map}
use Rattle.std.proofs.lemmas.List.{drop_more}
use Rattle.std.proofs.lemmas.Option.{slice_get-get_or}

pub in_front : {A : Type 0} (xs ys : List A) (i : ℕ) → i < length xs → slice_get (xs ++ ys) i ≡ slice_get xs i
in_front [] ys i inside = absurd (omega arith)
in_front (x ∷ xs) ys zero inside = refl
in_front (x ∷ xs) ys (suc i) inside = in_front xs ys i (omega arith)

pub past_first : {A : Type 0} (xs ys : List A) (i : ℕ) → length xs ≤ i → slice_get (xs ++ ys) i ≡ slice_get ys (i - length xs)
past_first {A = A} [] ys i past = let same : i - length {A = A} [] ≡ i = omega arith in rw same refl
past_first (x ∷ xs) ys zero past = absurd (omega arith)
past_first (x ∷ xs) ys (suc i) past = let same : suc i - length (x ∷ xs) ≡ i - length xs = omega arith in
    rw same (past_first xs ys i (omega arith))

-- the types of groups together
abbrev joined : List (List SubType) → List SubType
joined groups = flat_map (λ (group : List SubType). group) groups

cut : (groups : List (List SubType)) (i : ℕ) (group : List SubType) → i < length groups → group ≡ get_or groups i group
    → joined (drop i groups) ≡ group ++ joined (drop (i + 1) groups)
cut groups i group inside is = ap joined (drop_more groups i group inside)
    ∙ ap (λ (one : List SubType). one ++ joined (drop (i + 1) groups)) (sym is)

module _ (groups : List (List SubType)) (i left index : ℕ)
    (now : slice_get (joined (drop i groups)) left ≡ slice_get (joined groups) index) where
  -- it is in the next group
  pub found_in : (group : List SubType) (t : SubType) → i < length groups → group ≡ get_or groups i group → left < length group
      → t ≡ get_or group left t → slice_get (joined groups) index ≡ Some t
  found_in group t inside is short at =
      sym now ∙ (ap (λ (types : List SubType). slice_get types left) (cut groups i group inside is)
      ∙ (in_front group (joined (drop (i + 1) groups)) left short
      ∙ (slice_get-get_or group left t short ∙ ap (λ (one : SubType). Some one) (sym at))))

  -- it is after that group
  pub found_further : (group : List SubType) (less : ℕ) → i < length groups → group ≡ get_or groups i group → length group ≤ left
      → less ≡ left - length group → slice_get (joined (drop (i + 1) groups)) less ≡ slice_get (joined groups) index
  found_further group less inside is past fewer =
      rw fewer (sym (past_first group (joined (drop (i + 1) groups)) left past)
      ∙ (ap (λ (types : List SubType). slice_get types left) (sym (cut groups i group inside is)) ∙ now))
