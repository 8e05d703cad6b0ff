-- Existing types are unchanged when types are drawn after them; if there are as many types as
-- allowed, none is drawn.
use Rattle.wasm_smith.proofs.Common.{[], all_kept, arith, Bool, Config, Context, Extends, false, GroupedTypes, length, List, refl, suc}
use Rattle.wasm_smith.proofs.Common.{true, zero, ℕ, ◌++◌, ◌+◌, ◌∷◌, ◌≡◌, ◌≤◌}
use Rattle.std.proofs.Common.{nat_lt}
use Rattle.std.proofs.lemmas.Bool.{ltb-true}
use Rattle.smith_bytes.specs.Growth.{goes_at, grow_at}
use Rattle.smith_bytes.proofs.GrownLemmas.{cond_both}
use Rattle.smith_draw_types.specs.RecGroups.{types_until_at, new_group_at, clone_rec_group_at, clone_wanted_at, cloned_or_new_at}
use Rattle.smith_draw_types.specs.RecGroups.{rec_group_at, least_types_at, more_types_at, types_at, with_clone, may_be_cloned, members}
use Rattle.smith_draw_types.specs.Choices.{chosen_at}
use Rattle.smith_draw_types.proofs.RecGroupLemmas.{least_keeps, more_keeps}
use Rattle.smith_draw_definitions.proofs.RequiredExportsLoop.{extends_both}
use Rattle.smith_draw_definitions.proofs.StandsAfterLemmas.{one_more}

-- a list that grows extends the list before
grow_extends : {A : Type 0} (draw : List A → List ℕ → A × List ℕ) (least most : ℕ) (made : List A) (bytes : List ℕ)
    → Extends made (grow_at draw least most made bytes).0
unfolding grow_at
grow_extends draw least zero made bytes = all_kept made
grow_extends {A = A} draw least (suc most) made bytes =
    let go = goes_at (nat_lt (length made) least) bytes in
    let x = draw made go.1 in
    cond_both (λ (r : List A × List ℕ). Extends made r.0) go.0 (grow_at draw least most (made ++ x.0 ∷ []) x.1) (made, go.1)
    (extends_both (one_more made x.0) (grow_extends draw least most (made ++ x.0 ∷ []) x.1)) (all_kept made)

-- a space begins with the types and the groups of another
pub record IsAfter (old new : GroupedTypes) : Type 0 where
  pub types : Extends old.types new.types
  pub groups : Extends old.groups new.groups

same_space : (space : GroupedTypes) → IsAfter space space
same_space space = record { types = all_kept space.types; groups = all_kept space.groups }

after_both : {first second third : GroupedTypes} → IsAfter first second → IsAfter second third → IsAfter first third
after_both one two = record { types = extends_both one.types two.types; groups = extends_both one.groups two.groups }

new_group_after : (config : Config) (functions : Context) (allow_empty : Bool) (space : GroupedTypes) (bytes : List ℕ)
    → IsAfter space (new_group_at config functions allow_empty space bytes).0
unfolding new_group_at types_until_at
new_group_after config functions allow_empty space bytes = record {
  types = grow_extends _ _ _ space.types _;
  groups = one_more space.groups _;
}

clone_after : (config : Config) (allow_empty : Bool) (space : GroupedTypes) (bytes : List ℕ)
    → IsAfter space (clone_rec_group_at config allow_empty space bytes).1.0
unfolding clone_rec_group_at
clone_after config allow_empty space bytes =
    let group = chosen_at (record { start = 0; end = 0 }) space.groups bytes in
    cond_both (IsAfter space) (may_be_cloned config allow_empty space group.0) (with_clone space group.0) space
    (record { types = record { more = members space.types group.0; parts = refl }; groups = one_more space.groups _ }) (same_space space)

rec_group_after : (config : Config) (functions : Context) (allow_empty : Bool) (space : GroupedTypes) (bytes : List ℕ)
    → IsAfter space (rec_group_at config functions allow_empty space bytes).0
unfolding rec_group_at
rec_group_after config functions allow_empty space bytes =
    let wanted = clone_wanted_at config space bytes in
    let clone = clone_rec_group_at config allow_empty space wanted.1 in
    let P = λ (r : GroupedTypes × List ℕ). IsAfter space r.0 in
    cond_both P wanted.0 (cloned_or_new_at config functions allow_empty space wanted.1)
    (new_group_at config functions allow_empty space wanted.1)
    (cond_both P _ clone.1 (new_group_at config functions allow_empty clone.1.0 clone.1.1) (clone_after config allow_empty space wanted.1)
    (after_both (clone_after config allow_empty space wanted.1) (new_group_after config functions allow_empty clone.1.0 clone.1.1)))
    (new_group_after config functions allow_empty space wanted.1)

-- existing types and groups are unchanged
pub types_after : (config : Config) (functions : Context) (space : GroupedTypes) (bytes : List ℕ)
    → IsAfter space (types_at config functions space bytes).0
unfolding types_at
types_after config functions space bytes =
    let least = least_types_at config functions config.min_types space bytes in
    more_keeps config functions (IsAfter space) (λ s after room h. after_both h (rec_group_after config functions true s after))
    (length least.1 + 1) least.0 least.1
    (least_keeps config functions (IsAfter space) (λ s after few h. after_both h (rec_group_after config functions false s after))
    config.min_types space bytes (same_space space))

not_less : (a b : ℕ) (less : Bool) → nat_lt a b ≡ less → b ≤ a → less ≡ false
not_less a b true is most = let few = ltb-true a b is in absurd (omega (arith, few, most))
not_less a b false is most = refl

no_least : (config : Config) (functions : Context) (turns : ℕ) (space : GroupedTypes) (bytes : List ℕ)
    → config.min_types ≤ length space.types → least_types_at config functions turns space bytes ≡ (space, bytes)
unfolding least_types_at
no_least config functions zero space bytes enough = refl
no_least config functions (suc turns) space bytes enough =
    rw (not_less (length space.types) config.min_types (nat_lt (length space.types) config.min_types) refl enough) refl

no_more : (config : Config) (functions : Context) (turns : ℕ) (space : GroupedTypes) (bytes : List ℕ)
    → config.max_types ≤ length space.types → more_types_at config functions turns space bytes ≡ (space, bytes)
unfolding more_types_at
no_more config functions zero space bytes full = refl
no_more config functions (suc turns) space bytes full =
    rw (not_less (length space.types) config.max_types (nat_lt (length space.types) config.max_types) refl full) refl

-- if there are as many as allowed, none is drawn
pub types_full : (config : Config) (functions : Context) (space : GroupedTypes) (bytes : List ℕ) → config.min_types ≤ config.max_types
    → config.max_types ≤ length space.types → types_at config functions space bytes ≡ (space, bytes)
unfolding types_at
types_full config functions space bytes ordered full =
    rw (no_least config functions config.min_types space bytes (omega (arith, ordered, full)))
    (no_more config functions (length bytes + 1) space bytes full)
