-- What is left to check of the scope of groups, and of the types of a group.
use Rattle.std.proofs.Common.{◌≡◌, ℕ, ◌+◌, ◌^◌, ◌<◌, ◌≤◌, ◌↔◌, Bool, true, false, List, [], ◌∷◌, ◌++◌, length, get_or, drop, refl, sym, ap}
use Rattle.std.proofs.Common.{subst, ◌∙◌, arith, add-one, drop-cons, length-append}
use Rattle.std.specs.Prelude.{IsTrue}
use Rattle.std.specs.List.{flat_map}
use Rattle.std.proofs.lemmas.List.{drop_all}
use Rattle.smith_types.specs.Syntax.composite_type.SubType.{SubType}
use Rattle.smith_check_types.specs.TypeSections.{IsTypeInScope, AreMembersInScope, AreGroupsInScope}

abbrev pub all_of : List (List SubType) → List SubType
all_of groups = flat_map (λ (group : List SubType). group) groups

-- the groups from `start` on are left
pub record GroupsLeft (groups : List (List SubType)) (start : ℕ) (left : List (List SubType)) : Type 0 where
  pub count : start + length (all_of left) ≡ length (all_of groups)
  pub fine : AreGroupsInScope start left → AreGroupsInScope 0 groups
  pub needed : AreGroupsInScope 0 groups → AreGroupsInScope start left

-- the types of a group from `index` on are left
pub record MembersLeft (end start : ℕ) (group : List SubType) (index : ℕ) (left : List SubType) : Type 0 where
  pub count : index + length left ≡ start + length group
  pub fine : AreMembersInScope end index left → AreMembersInScope end start group
  pub needed : AreMembersInScope end start group → AreMembersInScope end index left

next_of : {A : Type 0} (xs : List A) (i : ℕ) (x d : A) → i < length xs → x ≡ get_or xs i d → drop i xs ≡ x ∷ drop (i + 1) xs
next_of xs i x d inside read = rw (read, add-one) (drop-cons xs i d inside)

count_next : (group : List SubType) (left : List (List SubType)) → length (all_of (group ∷ left)) ≡ length group + length (all_of left)
count_next group left = length-append group (all_of left)

pub groups_start : (groups : List (List SubType)) → GroupsLeft groups 0 groups
groups_start groups = record { count = omega arith; fine = λ h. h; needed = λ h. h }

pub groups_room : (groups : List (List SubType)) (start i : ℕ) (group d : List SubType) → i < length groups → group ≡ get_or groups i d
    → GroupsLeft groups start (drop i groups)
    → length (all_of groups) < 2 ^ 32 → start + length group < 2 ^ 32
groups_room groups start i group d inside read left few =
    let sizes : length (all_of (drop i groups)) ≡ length group + length (all_of (drop (i + 1) groups)) =
    ap (λ (gs : List (List SubType)). length (all_of gs)) (next_of groups i group d inside read) ∙ count_next group (drop (i + 1) groups) in
    omega (arith, sizes, left.count, few)

pub groups_turn : (groups : List (List SubType)) (start i : ℕ) (group d : List SubType) → i < length groups → group ≡ get_or groups i d
    → GroupsLeft groups start (drop i groups)
    → AreMembersInScope (start + length group) start group → GroupsLeft groups (start + length group) (drop (i + 1) groups)
groups_turn groups start i group d inside read left here =
    let next : GroupsLeft groups start (group ∷ drop (i + 1) groups) =
    subst (GroupsLeft groups start) (next_of groups i group d inside read) left in
    record {
      count = omega (arith, next.count, count_next group (drop (i + 1) groups));
      fine = λ h. next.fine (here, h);
      needed = λ h. (next.needed h).1;
    }

pub groups_refused : (groups : List (List SubType)) (start i : ℕ) (group d : List SubType) → i < length groups → group ≡ get_or groups i d
    → GroupsLeft groups start (drop i groups)
    → (AreMembersInScope (start + length group) start group → ⊥) → AreGroupsInScope 0 groups → ⊥
groups_refused groups start i group d inside read left never all =
    let next : GroupsLeft groups start (group ∷ drop (i + 1) groups) =
    subst (GroupsLeft groups start) (next_of groups i group d inside read) left in
    never (next.needed all).0

pub groups_done : (groups : List (List SubType)) (start i : ℕ) → length groups ≤ i → GroupsLeft groups start (drop i groups)
    → AreGroupsInScope 0 groups
groups_done groups start i past left =
    let next : GroupsLeft groups start [] = subst (GroupsLeft groups start) (drop_all i groups past) left in next.fine tt

pub members_start : (end start : ℕ) (group : List SubType) → MembersLeft end start group start group
members_start end start group = record { count = refl; fine = λ h. h; needed = λ h. h }

pub members_room : (end start : ℕ) (group : List SubType) (index i : ℕ) (t d : SubType) → i < length group → t ≡ get_or group i d
    → MembersLeft end start group index (drop i group)
    → start + length group < 2 ^ 32 → index + 1 < 2 ^ 32 + 1
members_room end start group index i t d inside read left few =
    let sizes : length (drop i group) ≡ length (t ∷ drop (i + 1) group) = ap length (next_of group i t d inside read) in
    omega (arith, sizes, left.count, few)

pub members_turn : (end start : ℕ) (group : List SubType) (index i : ℕ) (t d : SubType) → i < length group → t ≡ get_or group i d
    → MembersLeft end start group index (drop i group)
    → IsTypeInScope end index t → MembersLeft end start group (index + 1) (drop (i + 1) group)
members_turn end start group index i t d inside read left here =
    let next : MembersLeft end start group index (t ∷ drop (i + 1) group) = subst (MembersLeft end start group index)
    (next_of group i t d inside read) left in
    record {
      count = omega (arith, next.count);
      fine = λ h. next.fine (here, h);
      needed = λ h. (next.needed h).1;
    }

pub members_refused : (end start : ℕ) (group : List SubType) (index i : ℕ) (t d : SubType) → i < length group → t ≡ get_or group i d
    → MembersLeft end start group index (drop i group)
    → (IsTypeInScope end index t → ⊥) → AreMembersInScope end start group → ⊥
members_refused end start group index i t d inside read left never all =
    let next : MembersLeft end start group index (t ∷ drop (i + 1) group) = subst (MembersLeft end start group index)
    (next_of group i t d inside read) left in
    never (next.needed all).0

pub members_done : (end start : ℕ) (group : List SubType) (index i : ℕ) → length group ≤ i
    → MembersLeft end start group index (drop i group) → AreMembersInScope end start group
members_done end start group index i past left =
    let next : MembersLeft end start group index [] = subst (MembersLeft end start group index) (drop_all i group past) left in next.fine tt

-- what a test returns
pub never_true : {P : Type 0} → (P → ⊥) → IsTrue false ↔ P
never_true never = (λ h. absurd (cc h), λ p. absurd (never p))

pub always_true : {P : Type 0} → P → IsTrue true ↔ P
always_true p = (λ h. p, λ q. refl)
