-- The grounded types among the subtypes offered, with those that are recorded at their end.
use Rattle.smith_draw_types.proofs.Common.{[], ap, arith, Bool, Concrete, drop, filter, filter-append, HeapType, length, length-map, List}
use Rattle.smith_draw_types.proofs.Common.{map, option_map, refl, slice_get, slice_get-map, Some, subst, suc, sym, take, zero, ℕ, ◌++◌, ◌+◌}
use Rattle.smith_draw_types.proofs.Common.{◌-◌, ◌<◌, ◌∙◌, ◌∷◌, ◌≡◌, ◌≤◌}
use Rattle.std.proofs.lemmas.List.{length-append, take-append-drop}
use Rattle.smith_draw_types.proofs.GroundedLoop.{none_left}
use Rattle.smith_draw_types.proofs.OfferedPlaceLemmas.{slice_get-after}

drop_further : {A : Type 0} (n : ℕ) (xs : List A) → drop n (drop 1 xs) ≡ drop (n + 1) xs
drop_further n [] = none_left [] n (omega arith) ∙ sym (none_left [] (n + 1) (omega arith))
drop_further n (x ∷ xs) = let next : n + 1 ≡ suc n = omega arith in rw next refl

module _ (test : HeapType → Bool) (offered : List HeapType) (start before : ℕ) (indices : List ℕ) (some : 0 < start)
    (rest : filter test (drop start offered) ≡ map Concrete indices) (counted : before + length (filter test (drop start offered))
    ≡ length (filter test (drop 1 offered))) where
  rest_long : length (filter test (drop start offered)) ≡ length indices
  rest_long = ap (λ (l : List HeapType). length l) rest ∙ length-map indices Concrete

  -- how many are grounded
  pub all_grounded : (count : ℕ) → count ≡ length indices → before + count ≡ length (filter test (drop 1 offered))
  all_grounded count is = omega (arith, counted, rest_long, is)

  parts : filter test (drop 1 offered) ≡ filter test (take (start - 1) (drop 1 offered)) ++ filter test (drop start offered)
  parts =
      let next : start - 1 + 1 ≡ start = omega (arith, some) in
      let later : drop (start - 1) (drop 1 offered) ≡ drop start offered = drop_further (start - 1) offered ∙ ap (λ (n : ℕ). drop n offered)
      next in
      ap (filter test) (sym (take-append-drop (start - 1) (drop 1 offered))) ∙ filter-append test (take (start - 1) (drop 1 offered))
      (drop (start - 1) (drop 1 offered))
      ∙ ap (λ (l : List HeapType). filter test (take (start - 1) (drop 1 offered)) ++ filter test l) later

  first_long : length (filter test (take (start - 1) (drop 1 offered))) ≡ before
  first_long =
      let joined = ap (λ (l : List HeapType). length l) parts ∙ length-append (filter test (take (start - 1) (drop 1 offered)))
      (filter test (drop start offered)) in
      omega (arith, joined, counted)

  -- the drawn one is among those recorded
  pub recorded_inside : (place : ℕ) → before ≤ place → place < length (filter test (drop 1 offered)) → place - before < length indices
  recorded_inside place least inside = omega (arith, least, inside, counted, rest_long)

  pub recorded_found : (place found : ℕ) → before ≤ place → slice_get indices (place - before) ≡ Some found
      → slice_get (filter test (drop 1 offered)) place ≡ Some (Concrete found)
  recorded_found place found least at =
      let here : slice_get (filter test (drop start offered)) (place - before) ≡ Some (Concrete found) =
      ap (λ (l : List HeapType). slice_get l (place - before)) rest ∙ slice_get-map Concrete indices (place - before)
      ∙ ap (λ o. option_map Concrete o) at in
      ap (λ (l : List HeapType). slice_get l place) parts
      ∙ slice_get-after (filter test (take (start - 1) (drop 1 offered))) (filter test (drop start offered)) place (place - before)
      (Concrete found) (omega (arith, first_long, least)) here

-- nothing follows the subtypes offered
pub none_further : (test : HeapType → Bool) (offered : List HeapType) (count end : ℕ) → end ≡ length offered
    → count + length (filter test (drop end offered)) ≡ length (filter test (drop 1 offered))
    → count ≡ length (filter test (drop 1 offered))
none_further test offered count end is counted =
    let none = subst (λ (l : List HeapType). count + length (filter test l) ≡ length (filter test (drop 1 offered)))
    (none_left offered end (omega (arith, is))) counted in
    omega (arith, none)
