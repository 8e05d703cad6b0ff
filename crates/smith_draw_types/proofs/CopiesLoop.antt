-- One turn of the loop that clones a group.
use Rattle.smith_draw_types.proofs.Common.{[], All-from_recursion, ap, append_assoc, arith, drop, get_or, GroupedTypes, length, length-drop}
use Rattle.smith_draw_types.proofs.Common.{List, next_start, Range, slice_get, slice_get-get_or, Some, SubType, sym, take, ℕ, ◌++◌, ◌+◌}
use Rattle.smith_draw_types.proofs.Common.{◌-◌, ◌<◌, ◌^◌, ◌∙◌, ◌∷◌, ◌≡◌, ◌≤◌}
use Rattle.std.specs.List.{AllByRecursion as Each}
use Rattle.std.proofs.lemmas.List.{take_more, get_or-drop, get_or_append_left}
use Rattle.smith_types.specs.GroupedTypes.{IsSound, MayFollow}
use Rattle.smith_types.specs.Types.{AreConsecutive}
use Rattle.smith_types.proofs.ValidityLemmas.{ends_within}

-- the first types of a group are appended to the types
pub copied : (old now more : List SubType) (start end n : ℕ) (t : SubType) → start ≤ n → n < end → end ≤ length old
    → now ≡ old ++ take (n - start) (drop start old) → t ≡ get_or now n t → more ≡ now ++ t ∷ []
    → more ≡ old ++ take (n + 1 - start) (drop start old)
copied old now more start end n t low high inside so_far at longer =
    let front = take (n - start) (drop start old) in
    let len : length (drop start old) ≡ length old - start = length-drop start old in
    let one : n + 1 - start ≡ n - start + 1 = omega arith in
    let place : start + (n - start) ≡ n = omega arith in
    let here : get_or (drop start old) (n - start) t ≡ t =
    get_or-drop start old (n - start) t ∙ ap (λ (k : ℕ). get_or old k t) place ∙ sym (get_or_append_left old front t n (omega arith))
    ∙ ap (λ (ts : List SubType). get_or ts n t) (sym so_far) ∙ sym at in
    let next : take (n + 1 - start) (drop start old) ≡ front ++ t ∷ [] =
    ap (λ (k : ℕ). take k (drop start old)) one ∙ take_more (drop start old) (n - start) t (omega arith)
    ∙ ap (λ (x : SubType). front ++ x ∷ []) here in
    longer ∙ ap (λ (ts : List SubType). ts ++ t ∷ []) so_far ∙ append_assoc old front (t ∷ []) ∙ ap (λ (ts : List SubType). old ++ ts)
    (sym next)

-- an existing type may be appended again
pub copy_follows : (space : GroupedTypes) (n : ℕ) (t : SubType) → IsSound space → n < length space.types → t ≡ get_or space.types n t
    → length space.types + 1 < 2 ^ 32 → MayFollow space.types t
copy_follows space n t sound inside at room = record {
  below = λ s up.
      let here : slice_get space.types n ≡ Some t = slice_get-get_or space.types n t inside ∙ ap Some (sym at) in
      let (before, alike) = sound.orderly.under n s t here up in
      let above = slice_get-get_or space.types s t (omega arith) in
      (get_or space.types s t, above, alike (get_or space.types s t) above);
  room = room;
}

ordered : (start : ℕ) (groups : List (Range ℕ)) → AreConsecutive start groups → Each (λ (g : Range ℕ). g.start ≤ g.end) groups
ordered start [] c = tt
ordered start (g ∷ groups) (begins, ends, rest) = (omega arith, ordered g.end groups rest)

-- the position of a group among the types
pub record IsWithin (space : GroupedTypes) (g : Range ℕ) : Type 0 where
  pub ordered : g.start ≤ g.end
  pub inside : g.end ≤ length space.types

-- each group lies within the types
pub group_within : (space : GroupedTypes) (k : ℕ) (d : Range ℕ) → AreConsecutive 0 space.groups
    → next_start space.groups ≤ length space.types → k < length space.groups → IsWithin space (get_or space.groups k d)
group_within space k d consecutive within lt =
    let ends = All-from_recursion (λ (g : Range ℕ). g.end ≤ next_start space.groups) space.groups (ends_within 0 space.groups consecutive).1
    k d lt in
    record {
      ordered = All-from_recursion (λ (g : Range ℕ). g.start ≤ g.end) space.groups (ordered 0 space.groups consecutive) k d lt;
      inside = omega (arith, ends);
    }
