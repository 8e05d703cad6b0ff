-- Types one after another are members if each is, and lists of the family by their parts.
use Rattle.smith_spell.proofs.Common.{[], add-one, All, ap, append-nil, append_assoc, arith, Config, drop, drop-cons, flat_map, get_or}
use Rattle.smith_spell.proofs.Common.{length, List, refl, rules, same_Some, slice_get, Some, space_of, subst, SubType, suc, sym, take, zero}
use Rattle.smith_spell.proofs.Common.{ℕ, ◌++◌, ◌+◌, ◌<◌, ◌∙◌, ◌∷◌, ◌≡◌}
use Rattle.std.specs.Prelude.{◌↔◌, ◌≤◌}
use Rattle.std.proofs.lemmas.List.{take_more}
use Rattle.smith_types.specs.Entities.{IsFuncTypeIndex}
use Rattle.smith_spell.specs.Family.{IsMemberType, IsInFamily}
use Rattle.smith_spell.specs.Decided.{AreMembersAfter, AreGroupsInFamily}

-- the types of groups
abbrev pub all_types : List (List SubType) → List SubType
all_types groups = flat_map (λ (group : List SubType). group) groups

-- the types of groups from a place on are those of the group there, then those of the others
pub from_place : (groups : List (List SubType)) (i : ℕ) (group other : List SubType) → i < length groups → group ≡ get_or groups i other
    → all_types (drop i groups) ≡ group ++ all_types (drop (i + 1) groups)
from_place groups i group other inside read = rw (read, add-one, drop-cons groups i other)

-- the types of a list from a place on are the one there, then the others
type_left : (group : List SubType) (i : ℕ) (t other : SubType) → i < length group → t ≡ get_or group i other
    → drop i group ≡ t ∷ drop (i + 1) group
type_left group i t other inside read = rw (read, add-one) (drop-cons group i other inside)

-- the types of a list up to a place, with the one there
pub type_taken : (before group : List SubType) (i : ℕ) (t other : SubType) → i < length group → t ≡ get_or group i other
    → (before ++ take i group) ++ t ∷ [] ≡ before ++ take (i + 1) group
type_taken before group i t other inside read =
    append_assoc before (take i group) (t ∷ [])
    ∙ ap (λ (types : List SubType). before ++ types) (ap (λ (u : SubType). take i group ++ u ∷ []) read
    ∙ sym (take_more group i other inside))

module _ (config : Config) where
  pub after_same : (types : List SubType) {before other : List SubType} → before ≡ other → AreMembersAfter config before types
      → AreMembersAfter config other types
  after_same types same h = subst (λ (list : List SubType). AreMembersAfter config list types) same h

  -- if joined types are members, so are those of each part
  members_apart : (before xs ys : List SubType) → AreMembersAfter config before (xs ++ ys) → AreMembersAfter config before xs
      × AreMembersAfter config (before ++ xs) ys
  members_apart before [] ys h = (tt, after_same ys (sym (append-nil before)) h)
  members_apart before (x ∷ xs) ys (here, more) =
      let (first, second) = members_apart (before ++ x ∷ []) xs ys more in
      ((here, first), after_same ys (append_assoc before (x ∷ []) xs) second)

  members_joined : (before xs ys : List SubType) → AreMembersAfter config before xs → AreMembersAfter config (before ++ xs) ys
      → AreMembersAfter config before (xs ++ ys)
  members_joined before [] ys h more = after_same ys (append-nil before) more
  members_joined before (x ∷ xs) ys (here, rest) more =
      (here, members_joined (before ++ x ∷ []) xs ys rest (after_same ys (sym (append_assoc before (x ∷ []) xs)) more))

  -- the types of groups are members if those from a place on are, and so on after the group there
  pub groups_turn : (groups : List (List SubType)) (i : ℕ) (group other : List SubType) (Whole : Type 0) → i < length groups
      → group ≡ get_or groups i other → AreMembersAfter config (all_types (take i groups)) group
      → AreMembersAfter config (all_types (take i groups)) (all_types (drop i groups)) ↔ Whole
      → AreMembersAfter config (all_types (take i groups) ++ group) (all_types (drop (i + 1) groups)) ↔ Whole
  groups_turn groups i group other Whole inside read here (to, back) =
      let before = all_types (take i groups) in
      let rest = all_types (drop (i + 1) groups) in
      let same = from_place groups i group other inside read in (
        λ more. to (subst (AreMembersAfter config before) (sym same) (members_joined before group rest here more)),
        λ whole. (members_apart before group rest (subst (AreMembersAfter config before) same (back whole))).1,
      )

  pub group_among : (groups : List (List SubType)) (i : ℕ) (group other : List SubType) → i < length groups → group ≡ get_or groups i other
      → AreMembersAfter config (all_types (take i groups)) (all_types (drop i groups))
      → AreMembersAfter config (all_types (take i groups)) group
  group_among groups i group other inside read h =
      let before = all_types (take i groups) in
      (members_apart before group (all_types (drop (i + 1) groups))
      (subst (AreMembersAfter config before) (from_place groups i group other inside read) h)).0

  -- the types of a list are members if those from a place on are, and so on after the one there
  pub type_turn : (before group : List SubType) (i : ℕ) (t other : SubType) (Whole : Type 0) → i < length group → t ≡ get_or group i other
      → IsMemberType config (before ++ take i group) t
      → AreMembersAfter config (before ++ take i group) (drop i group) ↔ Whole → AreMembersAfter config (before ++ take (i + 1) group)
      (drop (i + 1) group) ↔ Whole
  type_turn before group i t other Whole inside read here (to, back) =
      let rest = drop (i + 1) group in
      let same = type_left group i t other inside read in
      let next = type_taken before group i t other inside read in (
        λ more. to (subst (AreMembersAfter config (before ++ take i group)) (sym same) (here, after_same rest (sym next) more)),
        λ whole. after_same rest next (subst (AreMembersAfter config (before ++ take i group)) same (back whole)).1,
      )

  pub type_among : (before group : List SubType) (i : ℕ) (t other : SubType) → i < length group → t ≡ get_or group i other
      → AreMembersAfter config (before ++ take i group) (drop i group) → IsMemberType config (before ++ take i group) t
  type_among before group i t other inside read h =
      (subst (AreMembersAfter config (before ++ take i group)) (type_left group i t other inside read) h).0

  -- each is a member after those before it
  each_after : (before types : List SubType) → AreMembersAfter config before types → (i : ℕ) (t : SubType) → slice_get types i ≡ Some t
      → IsMemberType config (before ++ take i types) t
  each_after before [] h i t at = cc
  each_after before (u ∷ types) (here, more) zero t at = subst (λ (list : List SubType). IsMemberType config list t)
      (sym (append-nil before)) (subst (IsMemberType config before) (same_Some u t at) here)
  each_after before (u ∷ types) (here, more) (suc i) t at = subst (λ (list : List SubType). IsMemberType config list t)
      (append_assoc before (u ∷ []) (take i types)) (each_after (before ++ u ∷ []) types more i t at)

  all_after : (before types : List SubType) → ((i : ℕ) (t : SubType) → slice_get types i ≡ Some t
      → IsMemberType config (before ++ take i types) t) → AreMembersAfter config before types
  all_after before [] each = tt
  all_after before (u ∷ types) each = (
    subst (λ (list : List SubType). IsMemberType config list u) (append-nil before) (each 0 u refl),
    all_after (before ++ u ∷ []) types (λ i t at. subst (λ (list : List SubType). IsMemberType config list t)
        (sym (append_assoc before (u ∷ []) (take i types))) (each (suc i) t at)),
  )

  -- lists of the family by their groups and their functions
  pub groups_of_family : (groups : List (List SubType)) (funcs : List ℕ) → IsInFamily config groups funcs → AreGroupsInFamily config groups
  groups_of_family groups funcs h = record {
    filled = h.filled;
    single = h.single;
    few_types = h.few_types;
    members = all_after [] (space_of groups).types h.each_type;
  }

  pub family_of_groups : (groups : List (List SubType)) (funcs : List ℕ) → AreGroupsInFamily config groups → length funcs ≤ config.max_funcs
      → All (IsFuncTypeIndex (space_of groups).types) funcs → IsInFamily config groups funcs
  family_of_groups groups funcs h few valid = record {
    filled = h.filled;
    single = h.single;
    few_types = h.few_types;
    each_type = each_after [] (space_of groups).types h.members;
    few_funcs = few;
    each_func = valid;
  }

  -- the groups alone
  pub groups_alone : (groups : List (List SubType)) → AreGroupsInFamily config groups → IsInFamily config groups []
  groups_alone groups h = family_of_groups groups [] h (omega arith) (search rules)
