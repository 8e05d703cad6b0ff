-- Groups, tested one by one.
use Rattle.std.proofs.Common.{◌≡◌, ◌⊎◌, ℕ, zero, suc, ◌+◌, ◌<◌, ◌≤◌, List, [], ◌∷◌, Some, length, refl, sym, subst, ◌∙◌, ap, arith, inl}
use Rattle.std.proofs.Common.{inr, get_or}
use Rattle.std.specs.Prelude.{slice_get, All}
use Rattle.std.specs.List.{AllByRecursion as Each}
use Rattle.std.specs.declared.ops.Range.{Range}
use Rattle.std.proofs.lemmas.List.Elements.{All-from_recursion}
use Rattle.std.proofs.lemmas.Option.{slice_get-get_or, same_Some}
use Rattle.smith_types.specs.Syntax.Features.{Features}
use Rattle.smith_types.specs.Types.{AreConsecutive, end_from, next_start}
use Rattle.smith_validity.specs.Decided.{AreMembersValid}
use Rattle.smith_types.specs.ValidTypes.{IsTypeValid}
use Rattle.smith_types.specs.Syntax.composite_type.SubType.{SubType}

-- the members before `i` are valid
abbrev pub AreBeforeValid : Features → List SubType → Range ℕ → ℕ → Type 0
AreBeforeValid features types group i = (j : ℕ) (t : SubType) → group.start ≤ j → j < i → slice_get types j ≡ Some t
    → IsTypeValid features types group.end t

less_or_last : (j i : ℕ) → j < i + 1 → (j < i) ⊎ (j ≡ i)
less_or_last zero zero h = inr refl
less_or_last (suc j) zero h = absurd (omega arith)
less_or_last zero (suc i) h = inl (omega arith)
less_or_last (suc j) (suc i) h = elim (less_or_last j i (omega arith)) [ inl less ↦ inl (omega arith) | inr same ↦ inr (ap suc same) ]

-- the members before the next index are valid if those before this index and the member at it are
pub members_turn : (features : Features) (types : List SubType) (group : Range ℕ) (i : ℕ) (t d : SubType) → i < length types
    → t ≡ get_or types i d → AreBeforeValid features types group i → IsTypeValid features types group.end t
    → AreBeforeValid features types group (i + 1)
members_turn features types group i t d inside read before h j u low high at =
    elim (less_or_last j i high) [
      | inl less ↦ before j u low less at
      | inr same ↦
          let there : slice_get types i ≡ Some u = subst (λ n. slice_get types n ≡ Some u) same at in
          subst (IsTypeValid features types group.end)
          (read ∙ same_Some (get_or types i d) u (sym (slice_get-get_or types i d inside) ∙ there)) h
    ]

-- a member of valid members is valid
pub member_valid : (features : Features) (types : List SubType) (group : Range ℕ) (i : ℕ) (t d : SubType) → i < length types
    → t ≡ get_or types i d → group.start ≤ i → i < group.end → AreMembersValid features types group → IsTypeValid features types group.end t
member_valid features types group i t d inside read low high valid =
    valid.each i t low high (slice_get-get_or types i d inside ∙ ap Some (sym read))

-- each of consecutive groups ends after its start, and within the last of them
pub record IsWithin (count : ℕ) (group : Range ℕ) : Type 0 where
  pub ordered : group.start ≤ group.end
  pub inside : group.end ≤ count

each_within : (start : ℕ) (groups : List (Range ℕ)) → AreConsecutive start groups → (start ≤ end_from start groups)
    × Each (IsWithin (end_from start groups)) groups
each_within start [] c = (omega arith, tt)
each_within start (g ∷ groups) (begins, ordered, rest) =
    let (later, inside) = each_within g.end groups rest in
    (omega arith, (record { ordered = omega arith; inside = later }, inside))

pub all_within : (types : List SubType) (groups : List (Range ℕ)) → AreConsecutive 0 groups → next_start groups ≡ length types
    → All (IsWithin (length types)) groups
all_within types groups c whole = subst (λ n. All (IsWithin n) groups) whole (All-from_recursion (IsWithin (next_start groups)) groups
    (each_within 0 groups c).1)
