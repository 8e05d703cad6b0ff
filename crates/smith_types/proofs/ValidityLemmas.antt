-- Valid types stay valid when types are added, and one more group of one valid type is valid.
use Rattle.smith_types.proofs.Common.{[], Abstract, All, All-from_recursion, All-weaker, arith, Concrete, Exact, F32, F64, Features}
use Rattle.smith_types.proofs.Common.{HeapType, I32, I64, inl, inr, length, List, Range, recursion_from_All, Ref, refl, slice_get}
use Rattle.smith_types.proofs.Common.{slice_get_within, slice_index_or, Some, subst, SubType, suc, sym, V128, ValType, zero, ℕ, ◌++◌, ◌+◌}
use Rattle.smith_types.proofs.Common.{◌<◌, ◌∷◌, ◌≡◌, ◌≤◌, ◌⊎◌}
use Rattle.std.proofs.Common.{length-append}
use Rattle.std.specs.List.{AllByRecursion as ByRecursion}
use Rattle.std.proofs.lemmas.List.Elements.{All-nil, All-push}
use Rattle.smith_types.specs.GroupedTypes.{GroupedTypes}
use Rattle.smith_types.specs.Types.{IsOrderly, AreConsecutive, end_from, next_start, next_group}
use Rattle.smith_types.specs.ValidTypes.{IsHeapTypeShared, IsShareable, IsTypeValid, IsGroupValid, AreTypesValid, values_of}
use Rattle.smith_types.proofs.GrowthLemmas.{IsCompositeMatch-grown}
use Rattle.smith_types.proofs.ListLemmas.{slice_get-grown, slice_get-push}
use Rattle.smith_types.proofs.SpaceLemmas.{AreConsecutive-push, next_start-push}

module _ (features : Features) (types more : List SubType) where
  IsHeapTypeShared-grown : (heap : HeapType) → IsHeapTypeShared types heap → IsHeapTypeShared (types ++ more) heap
  IsHeapTypeShared-grown (Abstract shared ty) h = h
  IsHeapTypeShared-grown (Concrete i) (t, at, h) = (t, slice_get-grown types more i t at, h)
  IsHeapTypeShared-grown (Exact i) (t, at, h) = (t, slice_get-grown types more i t at, h)

  pub IsShareable-grown : (value : ValType) → IsShareable types value → IsShareable (types ++ more) value
  IsShareable-grown (Ref reference) h = IsHeapTypeShared-grown reference.heap_type h
  IsShareable-grown I32 h = h
  IsShareable-grown I64 h = h
  IsShareable-grown F32 h = h
  IsShareable-grown F64 h = h
  IsShareable-grown V128 h = h

  pub IsTypeValid-grown : (end : ℕ) (t : SubType) → IsTypeValid features types end t → IsTypeValid features (types ++ more) end t
  IsTypeValid-grown end t h = record {
    enabled = h.enabled;
    values = h.values;
    declared = λ s up.
        let (u, at, valid) = h.declared s up in (
          u,
          slice_get-grown types more s u at,
          record {
            not_final = valid.not_final;
            matched = IsCompositeMatch-grown types more t.composite_type u.composite_type
                valid.matched;
          },
        );
    shareable = λ shared. All-weaker (IsShareable types) (IsShareable (types ++ more)) IsShareable-grown (values_of t.composite_type.inner)
        (h.shareable shared);
  }

-- consecutive groups end within the last of them
pub ends_within : (start : ℕ) (groups : List (Range ℕ)) → AreConsecutive start groups → (start ≤ end_from start groups)
    × ByRecursion (λ (g : Range ℕ). g.end ≤ end_from start groups) groups
ends_within start [] c = (omega arith, tt)
ends_within start (g ∷ groups) (begins, ordered, rest) =
    let (later, inside) = ends_within g.end groups rest in
    (omega arith, (later, inside))

pub IsGroupValid-grown : (features : Features) (types : List SubType) (t : SubType) (group : Range ℕ) → group.end ≤ length types
    → IsGroupValid features types group → IsGroupValid features (types ++ t ∷ []) group
IsGroupValid-grown features types t group inside h = record {
  members = λ i u low high at. elim (slice_get-push types t i u at) [
    | inl old ↦ IsTypeValid-grown features types (t ∷ []) group.end u (h.members i u low high old)
    | inr (is, same) ↦ absurd (omega arith)
  ];
  single = h.single;
}

-- the group of one more type
IsGroupValid-single : (features : Features) (types : List SubType) (t : SubType) (group : Range ℕ) → group.start ≡ length types
    → group.end ≡ length types + 1 → IsTypeValid features (types ++ t ∷ []) (length types + 1) t
    → IsGroupValid features (types ++ t ∷ []) group
IsGroupValid-single features types t group begins ends h = record {
  members = λ i u low high at. elim (slice_get-push types t i u at) [
    | inl old ↦ let before : i < length types = slice_get_within types i u old in absurd (omega arith)
    | inr (is, same) ↦ subst (λ (n : ℕ). IsTypeValid features (types ++ t ∷ []) n u) (sym ends)
        (subst (λ (u : SubType). IsTypeValid features (types ++ t ∷ []) (length types + 1) u) same h)
  ];
  single = λ off. omega arith;
}

-- one more type, in a group of its own
pub AreTypesValid-single : (features : Features) (types : List SubType) (groups : List (Range ℕ)) (t : SubType)
    → IsOrderly (types ++ t ∷ []) → AreTypesValid features (record { types = types; groups = groups })
    → IsTypeValid features (types ++ t ∷ []) (length types + 1) t
    → AreTypesValid features (record { types = types ++ t ∷ []; groups = groups ++ next_group (types ++ t ∷ []) groups ∷ [] })
AreTypesValid-single features types groups t orderly now h =
    let more = types ++ t ∷ [] in
    let group = next_group more groups in
    let longer : length more ≡ length types + 1 = simp length-append refl in
    let begins : next_start groups ≡ length types = now.covered.whole in
    let ends = All-from_recursion (λ (g : Range ℕ). g.end ≤ next_start groups) groups (ends_within 0 groups now.covered.consecutive).1 in
    let old : All (IsGroupValid features more) groups =
    λ k d lt. IsGroupValid-grown features types t (slice_index_or groups k d) (let inside = ends k d lt in omega arith)
    (now.groups k d lt) in
    record {
      covered = record {
        consecutive = AreConsecutive-push 0 groups group now.covered.consecutive refl (omega arith);
        whole = next_start-push more groups;
      };
      orderly = orderly;
      groups = All-push (IsGroupValid features more) groups group old (IsGroupValid-single features types t group begins longer h);
    }

-- a space without types
pub no_types : (features : Features) → AreTypesValid features (record { types = []; groups = [] })
no_types features = record {
  covered = record { consecutive = tt; whole = refl };
  orderly = record { under = λ i s t at up. cc };
  groups = All-nil (IsGroupValid features []);
}

pub before_or_not : (a b : ℕ) → (a < b) ⊎ (b ≤ a)
before_or_not a zero = inr (omega arith)
before_or_not zero (suc b) = inl (omega arith)
before_or_not (suc a) (suc b) = elim (before_or_not a b) [ inl lt ↦ inl (omega arith) | inr le ↦ inr (omega arith) ]

-- a property of each of consecutive groups holds for the group that contains an index
pub group_at : (P : Range ℕ → Type 0) (start : ℕ) (groups : List (Range ℕ)) (i : ℕ) → AreConsecutive start groups → ByRecursion P groups
    → start ≤ i → i < end_from start groups → (group : Range ℕ) × P group × (group.start ≤ i) × (i < group.end)
group_at P start [] i c each low high = absurd (omega arith)
group_at P start (group ∷ groups) i (begins, ordered, rest) (h, more) low high =
    elim (before_or_not i group.end) [
      | inl inside ↦ (group, h, omega arith, inside)
      | inr following ↦ group_at P group.end groups i rest more following high
    ]

-- each type is valid for the end of its group
pub AreTypesValid-at : (features : Features) (space : GroupedTypes) → AreTypesValid features space → (i : ℕ) (t : SubType)
    → slice_get space.types i ≡ Some t → (end : ℕ) × IsTypeValid features space.types end t
AreTypesValid-at features space valid i t at =
    let inside : i < length space.types = slice_get_within space.types i t at in
    let each = recursion_from_All (IsGroupValid features space.types) space.groups valid.groups in
    let (group, h, low, high) = group_at (IsGroupValid features space.types) 0 space.groups i valid.covered.consecutive each (omega arith)
    (let whole = valid.covered.whole in omega arith) in
    (group.end, h.members i t low high at)
