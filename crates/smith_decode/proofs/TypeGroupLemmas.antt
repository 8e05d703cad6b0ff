-- Groups of types, split from their further supertypes and joined with them again.
use Rattle.smith_decode.proofs.Common.{[], ap, arith, drop, length, List, map, refl, sym, ℕ, ◌++◌, ◌+◌, ◌∙◌, ◌∷◌, ◌≡◌}
use Rattle.std.proofs.lemmas.List.{length-map, map-append}
use Rattle.smith_types.specs.Syntax.composite_type.SubType.{SubType}
use Rattle.smith_binary_read.specs.declared.types.DeclaredType.{DeclaredType}
use Rattle.smith_binary_read.proofs.TypeLemmas.{without_further}
use Rattle.smith_decode.specs.Sizes.{all_items, inner_sum, sub_type_items, further_items}
use Rattle.smith_decode.specs.TypeGroups.{AreAligned, declared_group, declared_groups, further_in, groups_further, groups_types, types_in}

-- split, then joined
joined_again : (group : List DeclaredType) → declared_group (types_in group) (further_in group) ≡ group
joined_again [] = refl
joined_again (t ∷ group) = ap (λ (more : List DeclaredType). t ∷ more) (joined_again group)

pub groups_again : (groups : List (List DeclaredType)) → declared_groups (groups_types groups) (groups_further groups) ≡ groups
groups_again [] = refl
groups_again (group ∷ groups) =
    ap (λ (one : List DeclaredType). one ∷ declared_groups (groups_types groups) (groups_further groups)) (joined_again group)
    ∙ ap (λ (more : List (List DeclaredType)). group ∷ more) (groups_again groups)

group_aligned : (group : List DeclaredType) → length (further_in group) ≡ length (types_in group)
group_aligned group =
    length-map group (λ (t : DeclaredType). t.further_supertypes) ∙ sym (length-map group (λ (t : DeclaredType). t.sub_type))

pub groups_aligned : (groups : List (List DeclaredType)) → AreAligned (groups_types groups) (groups_further groups)
groups_aligned [] = refl
groups_aligned (group ∷ groups) =
    ap (λ (n : ℕ). n ∷ map length (groups_further groups)) (group_aligned group)
    ∙ ap (λ (more : List ℕ). length (types_in group) ∷ more) (groups_aligned groups)

-- joined, then split
types_again : (group : List SubType) (further : List (List ℕ)) → types_in (declared_group group further) ≡ group
types_again [] further = refl
types_again (t ∷ group) [] = ap (λ (more : List SubType). t ∷ more) (types_again group [])
types_again (t ∷ group) (one ∷ further) = ap (λ (more : List SubType). t ∷ more) (types_again group further)

pub groups_types_again : (types : List (List SubType)) (further : List (List (List ℕ)))
    → groups_types (declared_groups types further) ≡ types
groups_types_again [] further = refl
groups_types_again (group ∷ types) [] =
    ap (λ (one : List SubType). one ∷ groups_types (declared_groups types [])) (types_again group [])
    ∙ ap (λ (more : List (List SubType)). group ∷ more) (groups_types_again types [])
groups_types_again (group ∷ types) (one ∷ further) =
    ap (λ (first : List SubType). first ∷ groups_types (declared_groups types further)) (types_again group one)
    ∙ ap (λ (more : List (List SubType)). group ∷ more) (groups_types_again types further)

further_again : (group : List SubType) (further : List (List ℕ)) → length further ≡ length group
    → further_in (declared_group group further) ≡ further
further_again [] [] e = refl
further_again [] (one ∷ further) e = absurd (omega (arith, e))
further_again (t ∷ group) [] e = absurd (omega (arith, e))
further_again (t ∷ group) (one ∷ further) e =
    ap (λ (more : List (List ℕ)). one ∷ more) (further_again group further (omega (arith, e)))

pub groups_further_again : (types : List (List SubType)) (further : List (List (List ℕ))) → AreAligned types further
    → groups_further (declared_groups types further) ≡ further
groups_further_again [] [] e = refl
groups_further_again [] (one ∷ further) e = absurd cc
groups_further_again (group ∷ types) [] e = absurd cc
groups_further_again (group ∷ types) (one ∷ further) e =
    let front : length one ≡ length group = cc in
    let others : map length further ≡ map length types = ap (drop 1) e in
    ap (λ (first : List (List ℕ)). first ∷ groups_further (declared_groups types further)) (further_again group one front)
    ∙ ap (λ (more : List (List (List ℕ))). one ∷ more) (groups_further_again types further others)

-- groups without further supertypes
abbrev pub none_further : List (List SubType) → List (List (List ℕ))
none_further = map (map (λ t. []))

group_plain : (group : List SubType) → declared_group group (map (λ t. []) group) ≡ map without_further group
group_plain [] = refl
group_plain (t ∷ group) = ap (λ (more : List DeclaredType). without_further t ∷ more) (group_plain group)

pub groups_plain : (types : List (List SubType)) → declared_groups types (none_further types) ≡ map (map without_further) types
groups_plain [] = refl
groups_plain (group ∷ types) =
    ap (λ (one : List DeclaredType). one ∷ declared_groups types (none_further types)) (group_plain group)
    ∙ ap (λ (more : List (List DeclaredType)). map without_further group ∷ more) (groups_plain types)

pub plain_aligned : (types : List (List SubType)) → AreAligned types (none_further types)
plain_aligned [] = refl
plain_aligned (group ∷ types) =
    ap (λ (n : ℕ). n ∷ map length (none_further types)) (length-map group (λ t. []))
    ∙ ap (λ (more : List ℕ). length group ∷ more) (plain_aligned types)

-- the items of types and their further supertypes
abbrev pub declared_items : DeclaredType → ℕ
declared_items t = sub_type_items t.sub_type + length t.further_supertypes

group_items : (group : List DeclaredType) → all_items declared_items group
    ≡ all_items sub_type_items (types_in group) + inner_sum length (further_in group)
group_items [] = refl
group_items (t ∷ group) = omega (arith, group_items group)

pub groups_items : (groups : List (List DeclaredType)) → all_items (all_items declared_items) groups
    ≡ all_items (all_items sub_type_items) (groups_types groups) + further_items (groups_further groups)
groups_items [] = refl
groups_items (group ∷ groups) = omega (arith, group_items group, groups_items groups)

-- one more item is split
pub one_more : {A B : Type 0} (part : A → B) (made : List B) (before : List A) (x : A) → made ≡ map part before
    → made ++ part x ∷ [] ≡ map part (before ++ x ∷ [])
one_more {B = B} part made before x so_far = ap (λ (xs : List B). xs ++ part x ∷ []) so_far ∙ sym (map-append part before (x ∷ []))

-- the parts of equal pairs
abbrev pair : {A B : Type 0} → A → B → A × B
pair x y = (x, y)

pub both_same : {A B : Type 0} (x : A) (y : B) (v : A) (w : B) → pair x y ≡ pair v w → (x ≡ v) × (y ≡ w)
both_same {A = A} {B = B} x y v w e = (ap (λ (p : A × B). p.0) e, ap (λ (p : A × B). p.1) e)
