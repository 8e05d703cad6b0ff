-- Groups written one after another: each iteration adds the types of one to those before.
use Rattle.smith_spell.proofs.Common.{[], add-one, All, ap, arith, Bool, Config, drop, drop-cons, drop_of_length-le, false, flat_map}
use Rattle.smith_spell.proofs.Common.{get_or, length, length-append, List, nat_lt, refl, slice_get, Some, space_of, SpellsBool}
use Rattle.smith_spell.proofs.Common.{SpellsGroups, SpellsSubTypes, subst, SubType, suc, sym, take, true, Where, zero, ℕ, ◌++◌, ◌+◌, ◌-◌}
use Rattle.smith_spell.proofs.Common.{◌<◌, ◌∙◌, ◌∷◌, ◌≡◌, ◌≤◌}
use Rattle.std.proofs.Math.Seq.{take-suc}
use Rattle.std.proofs.lemmas.List.{length-take}
use Rattle.smith_types.specs.GroupedTypes.{GroupedTypes}
use Rattle.smith_types.proofs.GroupsAddedLemmas.{space_of_push, groups_cut}
use Rattle.smith_types.proofs.ListLemmas.{slice_get-grown}
use Rattle.smith_draw_types.specs.Spelling.{SpellsGroup, SpellsSize}
use Rattle.smith_spell.specs.Family.{IsMemberType}
use Rattle.smith_spell.specs.declared.sub_types.Before.{Before}
use Rattle.smith_spell.specs.Written.{Writes, IsSummary, OverSome, AreMembers}
use Rattle.smith_spell.proofs.WrittenLemmas.{joined_written}
use Rattle.smith_spell.proofs.WritingLoop.{Leads, leads_over, leads_as}

-- a group is its size, then its types
pub group_written : (config : Config) (types : List SubType) (before : Before) (stands : Bool) (group : List SubType)
    {old between new : List ℕ} → IsSummary types before
    → Writes (SpellsSize config.gc_enabled config stands (config.max_types - before.count) (length group)) old between
    → Writes (SpellsSubTypes config types (before.count + length group) group) between new
    → Writes (SpellsGroup config types stands group) old new
unfolding SpellsGroup
group_written config types before stands group summary size members = joined_written (rw summary.counted at size)
    (rw summary.counted at members)

-- the item at a place
pub at_place : {A : Type 0} (xs : List A) (k : ℕ) (d : A) → k < length xs → slice_get xs k ≡ Some (get_or xs k d)
at_place [] k d inside = absurd (omega arith)
at_place (x ∷ xs) zero d inside = refl
at_place (x ∷ xs) (suc k) d inside = at_place xs k d (omega arith)

at_after : {A : Type 0} (front xs : List A) (n k : ℕ) (d : A) → n ≡ length front + k → k < length xs → slice_get (front ++ xs) n
    ≡ Some (get_or xs k d)
at_after [] xs n k d is inside = let same : n ≡ k = omega arith in rw same (at_place xs k d inside)
at_after (y ∷ front) xs zero k d is inside = absurd (omega arith)
at_after (y ∷ front) xs (suc n) k d is inside = at_after front xs n k d (omega arith) inside

-- each type of a group is a member after some types, no more than those up to the end of the group
pub group_members : (config : Config) (groups : List (List SubType)) (i : ℕ) (group d : List SubType) → i < length groups
    → group ≡ get_or groups i d → AreMembers config (space_of groups).types
    → All (λ (t : SubType). OverSome (length (space_of (take i groups)).types + length group) (λ types. IsMemberType config types t)) group
group_members config groups i group d inside read each = λ k other small.
    let front = (space_of (take i groups)).types in
    let rest = flat_map (λ (group : List SubType). group) (drop (suc i) groups) in
    let at = slice_get-grown (front ++ group) rest (length front + k) _ (at_after front group (length front + k) k other refl small) in
    let there : slice_get (space_of groups).types (length front + k) ≡ Some (get_or group k other) =
    rw (groups_cut groups i group d inside read) at in
    let short = length-take (length front + k) (space_of groups).types in
    record {
      types = take (length front + k) (space_of groups).types;
      few = omega (arith, short);
      holds = each (length front + k)
          (get_or group k other) there;
    }

-- there is room for the types of a group
pub group_room : (groups : List (List SubType)) (i : ℕ) (group d : List SubType) → i < length groups → group ≡ get_or groups i d
    → length (space_of (take i groups)).types + length group ≤ length (space_of groups).types
group_room groups i group d inside read =
    let front = (space_of (take i groups)).types in
    let rest = flat_map (λ (group : List SubType). group) (drop (suc i) groups) in
    let whole : length (space_of groups).types ≡ length ((front ++ group) ++ rest) = ap length (groups_cut groups i group d inside read) in
    omega (arith, whole, length-append (front ++ group) rest, length-append front group)

-- the types of groups up to a place, with those of the group there
pub types_turn : (groups : List (List SubType)) (i : ℕ) (group d : List SubType) → i < length groups → group ≡ get_or groups i d
    → (space_of (take i groups)).types ++ group ≡ (space_of (take (i + 1) groups)).types
types_turn groups i group d inside read =
    let more : take i groups ++ group ∷ [] ≡ take (i + 1) groups = ap (λ (g : List SubType). take i groups ++ g ∷ []) read
    ∙ sym (take-suc groups i d inside) ∙ ap (λ (n : ℕ). take n groups) (sym (add-one i)) in
    sym (ap (λ (s : GroupedTypes). s.types) (space_of_push (take i groups) group)) ∙ ap (λ (g : List (List SubType)). (space_of g).types)
    more

pub summary_turn : (groups : List (List SubType)) (i : ℕ) (group d : List SubType) (after : Before) → i < length groups
    → group ≡ get_or groups i d → IsSummary ((space_of (take i groups)).types ++ group) after
    → IsSummary (space_of (take (i + 1) groups)).types after
summary_turn groups i group d after inside read h = subst (λ (types : List SubType). IsSummary types after)
    (types_turn groups i group d inside read) h

-- one more group is written
pub leads_groups : (config : Config) (groups : List (List SubType)) (i : ℕ) (stands : Bool) (group d : List SubType) {Whole : List ℕ
    → Type 0} {start now asked later : List ℕ} → i < length groups → group ≡ get_or groups i d
    → Leads (SpellsGroups config (space_of (take i groups)).types stands (drop i groups)) Whole start now
    → Writes (SpellsBool true) now asked
    → Writes (SpellsGroup config (space_of (take i groups)).types stands group) asked later
    → Leads (SpellsGroups config (space_of (take (i + 1) groups)).types true (drop (i + 1) groups)) Whole start later
unfolding SpellsGroups
leads_groups config groups i stands group d inside read so_far go one =
    let next : drop i groups ≡ group ∷ drop (i + 1) groups = rw (read, add-one) (drop-cons groups i d inside) in
    let following = types_turn groups i group d inside read in
    leads_over (leads_over (leads_as (λ piece h. rw (next, following) h) so_far) go) one

-- no group is left
pub groups_written : (config : Config) (groups : List (List SubType)) (i : ℕ) (stands : Bool) (before : Before) {Whole : List ℕ → Type 0}
    {start now later : List ℕ} → length groups ≤ i → IsSummary (space_of (take i groups)).types before
    → Leads (SpellsGroups config (space_of (take i groups)).types stands (drop i groups)) Whole start now
    → Writes (Where (nat_lt before.count config.max_types) (SpellsBool false)) now later → Writes Whole start later
unfolding SpellsGroups
groups_written config groups i stands before past summary so_far last =
    let none : drop i groups ≡ [] = drop_of_length-le groups past in
    so_far.to _ (rw none (rw summary.counted at last))
