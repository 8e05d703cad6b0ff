-- A group under construction: types are added one at a time, and the finished group is valid.
use Rattle.smith_types.proofs.Common.{[], Abstract, All-from_recursion, All-weaker, arith, Concrete, Exact, F32, F64, false, Features}
use Rattle.smith_types.proofs.Common.{HeapType, I32, I64, inl, inr, length, List, Range, recursion_from_All, Ref, refl, slice_get}
use Rattle.smith_types.proofs.Common.{slice_get_within, slice_index_or, Some, subst, SubType, V128, ValType, ℕ, ◌++◌, ◌+◌, ◌<◌, ◌∷◌, ◌≡◌}
use Rattle.smith_types.proofs.Common.{◌≤◌}
use Rattle.std.proofs.Common.{length-append}
use Rattle.std.specs.List.{AllByRecursion as ByRecursion}
use Rattle.std.proofs.lemmas.List.Elements.{All-push}
use Rattle.smith_types.specs.GroupedTypes.{GroupedTypes}
use Rattle.smith_types.specs.Types.{IsAlike, next_start, next_group}
use Rattle.smith_types.specs.ValidTypes.{IsHeapTypeValid, IsValTypeValid, IsTypeValid, IsGroupValid, AreTypesValid, values_of}
use Rattle.smith_types.specs.OpenTypes.{AreTypesOpen}
use Rattle.smith_types.proofs.ListLemmas.{slice_get-push}
use Rattle.smith_types.proofs.SpaceLemmas.{IsOrderly-push, AreConsecutive-push, next_start-push}
use Rattle.smith_types.proofs.ValidityLemmas.{IsTypeValid-grown, IsGroupValid-grown, ends_within, group_at, before_or_not}

-- validity for one end implies validity for a later end
module _ (features : Features) (end later : ℕ) where
  IsHeapTypeValid-later : end ≤ later → (heap : HeapType) → IsHeapTypeValid features end heap → IsHeapTypeValid features later heap
  IsHeapTypeValid-later le (Abstract shared ty) h = h
  IsHeapTypeValid-later le (Concrete i) (on, below) = (on, omega arith)
  IsHeapTypeValid-later le (Exact i) (on, below) = (on, omega arith)

  pub IsValTypeValid-later : end ≤ later → (value : ValType) → IsValTypeValid features end value → IsValTypeValid features later value
  IsValTypeValid-later le (Ref reference) (on, h) =
      (on, record { heap_type = IsHeapTypeValid-later le reference.heap_type h.heap_type; nullable = h.nullable })
  IsValTypeValid-later le I32 h = h
  IsValTypeValid-later le I64 h = h
  IsValTypeValid-later le F32 h = h
  IsValTypeValid-later le F64 h = h
  IsValTypeValid-later le V128 h = h

  pub IsTypeValid-later : end ≤ later → (types : List SubType) (t : SubType) → IsTypeValid features types end t
      → IsTypeValid features types later t
  IsTypeValid-later le types t h = record {
    enabled = h.enabled;
    values = All-weaker (IsValTypeValid features end) (IsValTypeValid features later) (IsValTypeValid-later le)
        (values_of t.composite_type.inner) h.values;
    declared = h.declared;
    shareable = h.shareable;
  }

both_each : (P Q : Range ℕ → Type 0) (groups : List (Range ℕ)) → ByRecursion P groups → ByRecursion Q groups
    → ByRecursion (λ (g : Range ℕ). P g × Q g) groups
both_each P Q [] p q = tt
both_each P Q (g ∷ groups) p q = ((p.0, q.0), both_each P Q groups p.1 q.1)

-- each existing type is valid for the end of the group under construction
pub AreTypesOpen-at : (features : Features) (end : ℕ) (space : GroupedTypes) → AreTypesOpen features end space → (i : ℕ) (t : SubType)
    → slice_get space.types i ≡ Some t → IsTypeValid features space.types end t
AreTypesOpen-at features end space open_types i t at =
    elim (before_or_not i (next_start space.groups)) [
      | inl before ↦
          let each = recursion_from_All (IsGroupValid features space.types) space.groups open_types.groups in
          let ends = (ends_within 0 space.groups open_types.consecutive).1 in
          let (group, (h, last), low, high) =
          group_at (λ (g : Range ℕ). IsGroupValid features space.types g × (g.end ≤ next_start space.groups)) 0 space.groups i
          open_types.consecutive
          (both_each (IsGroupValid features space.types) (λ (g : Range ℕ). g.end ≤ next_start space.groups) space.groups each ends)
          (omega arith) before in
          let within = open_types.within in
          let room = open_types.room in
          IsTypeValid-later features group.end end (omega arith) space.types t (h.members i t low high at)
      | inr following ↦ open_types.following i t following at
    ]

-- valid types, before anything is added
pub AreTypesOpen-start : (features : Features) (end : ℕ) (space : GroupedTypes) → length space.types ≤ end → AreTypesValid features space
    → AreTypesOpen features end space
AreTypesOpen-start features end space le valid =
    let whole = valid.covered.whole in
    record {
      consecutive = valid.covered.consecutive;
      within = omega arith;
      room = le;
      orderly = valid.orderly;
      groups = valid.groups;
      following = λ i t low at. let inside = slice_get_within space.types i t at in absurd (omega arith);
    }

-- with one more type
pub AreTypesOpen-push : (features : Features) (end : ℕ) (types : List SubType) (groups : List (Range ℕ)) (t : SubType)
    → AreTypesOpen features end (record { types = types; groups = groups }) → length types < end
    → ((s : ℕ) → t.supertype ≡ Some s → (u : SubType) × (slice_get types s ≡ Some u) × IsAlike t u) → IsTypeValid features types end t
    → AreTypesOpen features end (record { types = types ++ t ∷ []; groups = groups })
AreTypesOpen-push features end types groups t now lt below h =
    let more = types ++ t ∷ [] in
    let longer : length more ≡ length types + 1 = simp length-append refl in
    let within : next_start groups ≤ length types = now.within in
    let ends = All-from_recursion (λ (g : Range ℕ). g.end ≤ next_start groups) groups (ends_within 0 groups now.consecutive).1 in
    record {
      consecutive = now.consecutive;
      within = omega arith;
      room = omega arith;
      orderly = IsOrderly-push types t now.orderly below;
      groups = λ k d inside. IsGroupValid-grown features types t (slice_index_or groups k d) (let last = ends k d inside in omega arith)
          (now.groups k d inside);
      following = λ i u low at. elim (slice_get-push types t i u at) [
        | inl old ↦ IsTypeValid-grown features types (t ∷ []) end u (now.following i u low old)
        | inr (is, same) ↦ IsTypeValid-grown features types (t ∷ []) end u (subst (λ (u : SubType). IsTypeValid features types end u) same
            h)
      ];
    }

-- if the types after the groups are valid so far, they form a valid group
pub AreTypesOpen-close : (features : Features) (types : List SubType) (groups : List (Range ℕ)) → AreTypesOpen features (length types)
    (record { types = types; groups = groups }) → (features.gc ≡ false → length types ≡ next_start groups + 1)
    → AreTypesValid features (record { types = types; groups = groups ++ next_group types groups ∷ [] })
AreTypesOpen-close features types groups now single =
    let group = next_group types groups in
    record {
      covered = record {
        consecutive = AreConsecutive-push 0 groups group now.consecutive refl now.within;
        whole = next_start-push types groups;
      };
      orderly = now.orderly;
      groups = All-push (IsGroupValid features types) groups group now.groups
          (record { members = λ i t low high at. now.following i t low at; single = single });
    }
