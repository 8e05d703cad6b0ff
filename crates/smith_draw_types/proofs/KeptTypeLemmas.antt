-- Properties that drawn types have if the types that they are drawn over have them: for one type,
-- from types without a supertype and subtypes; for all types of a type space, if the property may
-- depend on all of them and is preserved as more are added.
use Rattle.smith_draw_types.proofs.Common.{[], All, All-append, All-from_recursion, All-weaker, append-nil, append_assoc, arith, Bool}
use Rattle.smith_draw_types.proofs.Common.{cond_both, Config, Context, false, get_or, GroupedTypes, IsOrderly, length, List, None, Option}
use Rattle.smith_draw_types.proofs.Common.{refl, slice_get, slice_get-get_or, slice_get_within, Some, subst, SubType, sym, true, ℕ, ◌++◌}
use Rattle.smith_draw_types.proofs.Common.{◌+◌, ◌-◌, ◌||◌, ◌∷◌, ◌≡◌}
use Rattle.std.specs.List.{AllByRecursion as Each}
use Rattle.smith_types.specs.Types.{IsAlike}
use Rattle.smith_types.proofs.SpaceLemmas.{IsOrderly-push}
use Rattle.smith_draw_types.specs.Choices.{chosen_at}
use Rattle.smith_draw_types.specs.Grounding.{over}
use Rattle.smith_draw_types.specs.SubTypes.{supertypes, root_type_at, sub_type_below_at, sub_type_of_at, supertype_wanted_at, sub_type_at}
use Rattle.smith_draw_types.specs.RecGroups.{types_left, types_until_at, group_size_at, new_group_at, members, may_be_cloned, with_clone}
use Rattle.smith_draw_types.specs.RecGroups.{clone_rec_group_at, clone_wanted_at, cloned_or_new_at, rec_group_at, least_types_at, types_at}
use Rattle.smith_draw_types.proofs.MatchingCompositeLemmas.{grow_keeps}
use Rattle.smith_draw_types.proofs.FloatLemmas.{stands_in}
use Rattle.smith_draw_types.proofs.SubTypeLemmas.{sub_type_follows}
use Rattle.smith_draw_types.proofs.RecGroupLemmas.{IsStanding, each_grown, members_stand, least_keeps, more_keeps}

module _ (config : Config) (context : Context) (limit : ℕ) (P : SubType → Type 0)
    (root : (bytes : List ℕ) → P (root_type_at config context limit bytes).0)
    (below : (index : ℕ) (t : SubType) (bytes : List ℕ) → P t → P (sub_type_below_at config context limit index (Some t) bytes).0)
    (all : All P context.types) where
  at_index : (index : ℕ) (at : Option SubType) (bytes : List ℕ) → ((t : SubType) → at ≡ Some t → P t)
      → P (sub_type_below_at config context limit index at bytes).0
  at_index index None bytes h = root bytes
  at_index index (Some t) bytes h = below index t bytes (h t refl)

  pub sub_type_of_has : (indices bytes : List ℕ) → P (sub_type_of_at config context limit indices bytes).0
  unfolding sub_type_of_at
  sub_type_of_has indices bytes =
      let index = chosen_at 0 indices bytes in
      at_index index.0 (slice_get context.types index.0) index.1 (λ t at. stands_in P context.types index.0 t at all)

  pub sub_type_has : (bytes : List ℕ) → P (sub_type_at config context limit bytes).0
  unfolding sub_type_at
  sub_type_has bytes =
      let wanted = supertype_wanted_at config (length (supertypes context.types)) bytes in
      let indices = supertypes context.types in
      cond_both (λ (r : SubType × List ℕ). P r.0) wanted.0 (sub_type_of_at config context limit indices wanted.1)
      (root_type_at config context limit wanted.1)
      (sub_type_of_has indices wanted.1) (root wanted.1)

-- orderly types that all have a property, which may depend on all of them
pub record AllHave (P : List SubType → SubType → Type 0) (types : List SubType) : Type 0 where
  pub orderly : IsOrderly types
  pub each : All (P types) types

module _ (P : List SubType → SubType → Type 0) (stays : (types more : List SubType) (t : SubType) → P types t → P (types ++ more) t) where
  pushed : (types : List SubType) (t : SubType) → AllHave P types
      → ((s : ℕ) → t.supertype ≡ Some s → (u : SubType) × (slice_get types s ≡ Some u) × IsAlike t u) → P types t
      → AllHave P (types ++ t ∷ [])
  pushed types t now below own =
      let Later = P (types ++ t ∷ []) in
      record {
        orderly = IsOrderly-push types t now.orderly below;
        each = All-append Later types (t ∷ []) (All-weaker (P types) Later (λ u h. stays types (t ∷ []) u h) types now.each)
            (All-from_recursion Later (t ∷ []) (stays types (t ∷ []) t own, tt));
      }

  copied : (types more : List SubType) → AllHave P types → Each (IsStanding types) more → AllHave P (types ++ more)
  copied types [] now h = subst (AllHave P) (sym (append-nil types)) now
  copied types (t ∷ more) now h =
      let i = h.0.place in
      let stands = h.0.at in
      let longer =
      pushed types t now
      (λ s up.
      let (before, alike) = now.orderly.under i s t stands up in
      let inside = slice_get_within types i t stands in
      let above = slice_get-get_or types s t (omega arith) in
      (get_or types s t, above, alike (get_or types s t) above))
      (stands_in (P types) types i t stands now.each) in
      subst (AllHave P) (append_assoc types (t ∷ []) more) (copied (types ++ t ∷ []) more longer (each_grown types t more h.1))

  module _ (config : Config) (context : Context) (drawn : (types : List SubType) (limit : ℕ) (bytes : List ℕ) → IsOrderly types
      → All (P types) types → P types (sub_type_at config (over context types) limit bytes).0) where
    types_until : (types : List SubType) (limit : ℕ) (bytes : List ℕ) → AllHave P types
        → AllHave P (types_until_at config context limit types bytes).0
    unfolding types_until_at
    types_until types limit bytes now =
        grow_keeps (AllHave P) (λ made. sub_type_at config (over context made) limit)
        (λ made after h. pushed made (sub_type_at config (over context made) limit after).0 h
        (sub_type_follows config (over context made) limit after).below (drawn made limit after h.orderly h.each))
        limit (limit - length types) types bytes now

    new_group : (allow_empty : Bool) (space : GroupedTypes) (bytes : List ℕ) → AllHave P space.types
        → AllHave P (new_group_at config context allow_empty space bytes).0.types
    unfolding new_group_at
    new_group allow_empty space bytes now =
        let size = group_size_at config allow_empty (types_left config space) bytes in
        types_until space.types (length space.types + size.0) size.1 now

    pub cloned : (allow_empty : Bool) (space : GroupedTypes) (bytes : List ℕ) → AllHave P space.types
        → AllHave P (clone_rec_group_at config allow_empty space bytes).1.0.types
    unfolding clone_rec_group_at
    cloned allow_empty space bytes now =
        let group = chosen_at (record { start = 0; end = 0 }) space.groups bytes in
        cond_both (λ (s : GroupedTypes). AllHave P s.types) (may_be_cloned config allow_empty space group.0) (with_clone space group.0)
        space
        (copied space.types (members space.types group.0) now (members_stand space.types group.0)) now

    pub rec_group_has : (allow_empty : Bool) (space : GroupedTypes) (bytes : List ℕ) → AllHave P space.types
        → AllHave P (rec_group_at config context allow_empty space bytes).0.types
    unfolding rec_group_at
    rec_group_has allow_empty space bytes now =
        let wanted = clone_wanted_at config space bytes in
        let clone = clone_rec_group_at config allow_empty space wanted.1 in
        let copies = cloned allow_empty space wanted.1 now in
        let Keeps = λ (r : GroupedTypes × List ℕ). AllHave P r.0.types in
        cond_both Keeps wanted.0 (cloned_or_new_at config context allow_empty space wanted.1)
        (new_group_at config context allow_empty space wanted.1)
        (cond_both Keeps (clone.0 || allow_empty) clone.1 (new_group_at config context allow_empty clone.1.0 clone.1.1) copies
        (new_group allow_empty clone.1.0 clone.1.1 copies))
        (new_group allow_empty space wanted.1 now)

    pub types_have : (space : GroupedTypes) (bytes : List ℕ) → AllHave P space.types
        → AllHave P (types_at config context space bytes).0.types
    unfolding types_at
    types_have space bytes now =
        let Keeps = λ (s : GroupedTypes). AllHave P s.types in
        let least = least_types_at config context config.min_types space bytes in
        more_keeps config context Keeps (λ s after room h. rec_group_has true s after h) (length least.1 + 1) least.0 least.1
        (least_keeps config context Keeps (λ s after few h. rec_group_has false s after h) config.min_types space bytes now)
