-- A property that each drawn type has over types that have it holds for all types of a type space
-- as drawn groups are added.
use Rattle.smith_draw_types.proofs.Common.{[], All, All-append, All-from_recursion, Bool, cond_both, Config, Context, false, GroupedTypes}
use Rattle.smith_draw_types.proofs.Common.{length, List, SubType, true, ℕ, ◌+◌, ◌-◌, ◌||◌, ◌∷◌}
use Rattle.std.proofs.lemmas.List.Elements.{All-drop, All-take}
use Rattle.smith_draw_types.specs.Grounding.{over}
use Rattle.smith_draw_types.specs.Choices.{chosen_at}
use Rattle.smith_draw_types.specs.SubTypes.{sub_type_at}
use Rattle.smith_draw_types.specs.RecGroups.{types_left, types_until_at, group_size_at, new_group_at, members, may_be_cloned, with_clone}
use Rattle.smith_draw_types.specs.RecGroups.{clone_rec_group_at, clone_wanted_at, cloned_or_new_at, rec_group_at, least_types_at, types_at}
use Rattle.smith_draw_types.proofs.MatchingCompositeLemmas.{grow_keeps}
use Rattle.smith_draw_types.proofs.RecGroupLemmas.{least_keeps, more_keeps}

module _ (config : Config) (context : Context) (P : SubType → Type 0) (each : (types : List SubType) (limit : ℕ) (bytes : List ℕ)
    → All P types → P (sub_type_at config (over context types) limit bytes).0) where
  types_until : (types : List SubType) (limit : ℕ) (bytes : List ℕ) → All P types
      → All P (types_until_at config context limit types bytes).0
  unfolding types_until_at
  types_until types limit bytes all =
      grow_keeps (λ (made : List SubType). All P made) (λ made. sub_type_at config (over context made) limit)
      (λ made after h. All-append P made ((sub_type_at config (over context made) limit after).0 ∷ []) h
      (All-from_recursion P ((sub_type_at config (over context made) limit after).0 ∷ []) (each made limit after h, tt)))
      limit (limit - length types) types bytes all

  new_group : (allow_empty : Bool) (space : GroupedTypes) (bytes : List ℕ) → All P space.types
      → All P (new_group_at config context allow_empty space bytes).0.types
  unfolding new_group_at
  new_group allow_empty space bytes all =
      let size = group_size_at config allow_empty (types_left config space) bytes in
      types_until space.types (length space.types + size.0) size.1 all

  cloned : (allow_empty : Bool) (space : GroupedTypes) (bytes : List ℕ) → All P space.types
      → All P (clone_rec_group_at config allow_empty space bytes).1.0.types
  unfolding clone_rec_group_at
  cloned allow_empty space bytes all =
      let group = chosen_at (record { start = 0; end = 0 }) space.groups bytes in
      let copies = members space.types group.0 in
      cond_both (λ (s : GroupedTypes). All P s.types) (may_be_cloned config allow_empty space group.0) (with_clone space group.0) space
      (All-append P space.types copies all (All-take P (group.0.end - group.0.start) _ (All-drop P group.0.start space.types all))) all

  rec_group : (allow_empty : Bool) (space : GroupedTypes) (bytes : List ℕ) → All P space.types
      → All P (rec_group_at config context allow_empty space bytes).0.types
  unfolding rec_group_at
  rec_group allow_empty space bytes all =
      let wanted = clone_wanted_at config space bytes in
      let clone = clone_rec_group_at config allow_empty space wanted.1 in
      let copied = cloned allow_empty space wanted.1 all in
      let Keeps = λ (r : GroupedTypes × List ℕ). All P r.0.types in
      cond_both Keeps wanted.0 (cloned_or_new_at config context allow_empty space wanted.1)
      (new_group_at config context allow_empty space wanted.1)
      (cond_both Keeps (clone.0 || allow_empty) clone.1 (new_group_at config context allow_empty clone.1.0 clone.1.1) copied
      (new_group allow_empty clone.1.0 clone.1.1 copied))
      (new_group allow_empty space wanted.1 all)

  pub types_keep : (space : GroupedTypes) (bytes : List ℕ) → All P space.types → All P (types_at config context space bytes).0.types
  unfolding types_at
  types_keep space bytes all =
      let Keeps = λ (s : GroupedTypes). All P s.types in
      let least = least_types_at config context config.min_types space bytes in
      more_keeps config context Keeps (λ s after room h. rec_group true s after h) (length least.1 + 1) least.0 least.1
      (least_keeps config context Keeps (λ s after few h. rec_group false s after h) config.min_types space bytes all)
