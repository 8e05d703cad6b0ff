-- The first groups of types.
use Rattle.smith_check.proofs.Common.{[], All-nil, ap, AreTypesValid, arith, Features, flat_map, IsTypeSectionValid, length, List}
use Rattle.smith_check.proofs.Common.{MatchOption, Option, refl, Some, space_of, subst, SubType, suc, sym, take, zero, ℕ, ◌<◌, ◌∙◌, ◌∷◌}
use Rattle.smith_check.proofs.Common.{◌≡◌, ◌≤◌}
use Rattle.std.proofs.Common.{min, None, take-take, ◌+◌}
use Rattle.std.proofs.Common.{length-append}
use Rattle.smith_check_types.specs.Canonical.{AreCanonical}
use Rattle.smith_check_types.specs.CheckedTypes.{AreChecked}
use Rattle.smith_check_types.specs.declared.check.CheckedTypes.{CheckedTypes}

-- no groups are valid types
pub no_types : (features : Features) → AreTypesValid features (space_of [])
no_types features = record {
  covered = record { consecutive = tt; whole = refl };
  orderly = record { under = λ i s t at up. absurd (cc at) };
  groups = All-nil _;
}

pub none_canonical : AreCanonical [] []
none_canonical = record { long = refl; each = λ index first at. absurd (cc at) }

pub none_valid : (features : Features) → IsTypeSectionValid features []
none_valid features = record { scope = tt; indices = []; canonical = none_canonical; valid = no_types features }

-- groups of which not all are valid are some
pub some_groups : (features : Features) (groups : List (List SubType)) → (IsTypeSectionValid features groups → ⊥) → 0 < length groups
some_groups features [] wrong = absurd (wrong (none_valid features))
some_groups features (group ∷ groups) wrong = omega arith

-- the first groups have no more types than all
pub few_in_first : (groups : List (List SubType)) (count : ℕ)
    → length (space_of (take count groups)).types ≤ length (space_of groups).types
few_in_first groups zero = omega arith
few_in_first [] (suc count) = omega arith
few_in_first (group ∷ groups) (suc count) =
    let first = length-append group (flat_map (λ (g : List SubType). g) (take count groups)) in
    let whole = length-append group (flat_map (λ (g : List SubType). g) groups) in
    let others = few_in_first groups count in
    omega (arith, first, whole, others)

-- the groups up to an index, which may be past the end
pub front_is : (groups : List (List SubType)) (count : ℕ) → take (min count (length groups)) groups ≡ take count groups
front_is groups zero =
    let none : min zero (length groups) ≡ zero = omega arith in ap (λ (n : ℕ). take n groups) none
front_is [] (suc count) =
    let none : min (suc count) 0 ≡ 0 = omega arith in ap (λ (n : ℕ). take n []) none
front_is (group ∷ groups) (suc count) =
    let more : min (suc count) (suc (length groups)) ≡ suc (min count (length groups)) = omega arith in
    ap (λ (n : ℕ). take n (group ∷ groups)) more ∙ ap (λ (rest : List (List SubType)). group ∷ rest) (front_is groups count)

front_short : (groups : List (List SubType)) (count : ℕ) → length (take count groups) ≤ count
front_short groups zero = omega arith
front_short [] (suc count) = omega arith
front_short (group ∷ groups) (suc count) = let others = front_short groups count in omega (arith, others)

-- what is found in the first groups
pub before_in_front : (features : Features) (groups : List (List SubType)) (count group : ℕ)
    → IsTypeSectionValid features (take group (take count groups)) → group < length (take count groups)
    → IsTypeSectionValid features (take group groups)
before_in_front features groups count group before within =
    let short = front_short groups count in
    subst (IsTypeSectionValid features) (take-take group count groups (omega (arith, short, within))) before

pub wrong_in_front : (features : Features) (groups : List (List SubType)) (count several group : ℕ)
    → (IsTypeSectionValid features (take (group + 1) (take count groups)) → ⊥) → group < length (take count groups)
    → group < several → IsTypeSectionValid features (take (group + 1) groups) → ⊥
wrong_in_front features groups count several group wrong within low valid =
    let short = front_short groups count in
    let same = take-take (group + 1) count groups (omega (arith, short, within)) in
    wrong (subst (IsTypeSectionValid features) (sym same) valid)

-- groups that are checked are valid
pub checked_valid : (features : Features) (groups : List (List SubType)) (found : Option CheckedTypes) (types : CheckedTypes)
    → MatchOption found (IsTypeSectionValid features groups → ⊥) (λ kept. AreChecked features groups kept) → found ≡ Some types
    → IsTypeSectionValid features groups
checked_valid features groups None types decided is = absurd (cc is)
checked_valid features groups (Some kept) types decided is = decided.valid
