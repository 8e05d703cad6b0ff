-- What the steps of the check say of the types.
use Rattle.std.proofs.Common.{◌≡◌, ℕ, ◌+◌, ◌^◌, ◌<◌, List, [], ◌∷◌, ◌++◌, Option, Some, None, length, map, refl, sym, ap, subst, ◌∙◌, arith}
use Rattle.std.proofs.Common.{length-append}
use Rattle.std.specs.Prelude.{slice_get, MatchOption}
use Rattle.std.specs.List.{flat_map}
use Rattle.std.proofs.lemmas.List.{length-map}
use Rattle.std.proofs.lemmas.Option.{slice_get_within}
use Rattle.smith_types.specs.Syntax.Features.{Features}
use Rattle.smith_types.specs.Syntax.composite_type.SubType.{SubType}
use Rattle.smith_types.specs.Groups.{space_of, AreFollowing}
use Rattle.smith_types.specs.ValidTypes.{AreTypesValid}
use Rattle.smith_check_types.specs.Renamed.{renamed}
use Rattle.smith_check_types.specs.Canonical.{AreCanonical}
use Rattle.smith_types.specs.GroupedTypes.{GroupedTypes}
use Rattle.smith_check_types.specs.TypeSections.{canonical_index, canonical_groups, AreGroupsInScope, IsTypeSectionValid}
use Rattle.smith_check_types.specs.CheckedTypes.{AreChecked}
use Rattle.smith_check_types.specs.declared.check.CheckedTypes.{CheckedTypes}
use Rattle.smith_check_types.proofs.CanonicalLemmas.{some_at}
use Rattle.smith_check_types.proofs.LawLemmas.{unique_indices}

-- there are as many types by canonical indices
pub length-canonical : (name : SubType → SubType) (groups : List (List SubType))
    → length (flat_map (λ (group : List SubType). group) (map (map name) groups))
    ≡ length (flat_map (λ (group : List SubType). group) groups)
length-canonical name [] = refl
length-canonical name (group ∷ groups) =
    let left : length (map name group ++ flat_map (λ (g : List SubType). g) (map (map name) groups)) ≡ length (map name group) + length
    (flat_map (λ (g : List SubType). g) (map (map name) groups)) =
    length-append (map name group) (flat_map (λ (g : List SubType). g) (map (map name) groups)) in
    let right : length (group ++ flat_map (λ (g : List SubType). g) groups) ≡ length group + length
    (flat_map (λ (g : List SubType). g) groups) = length-append group (flat_map (λ (g : List SubType). g) groups) in
    omega (arith, left, right, length-map group name, length-canonical name groups)

-- valid types follow one another
pub valid_following : (features : Features) (groups : List (List SubType)) → AreTypesValid features (space_of groups)
    → AreFollowing (space_of groups).types
valid_following features groups valid = record {
  under = λ i s t at up.
      let types = (space_of groups).types in
      let (before, alike) = valid.orderly.under i s t at up in
      let inside : i < length types = slice_get_within types i t at in
      let (u, there) = some_at types s (omega (arith, before, inside)) in
      (before, (u, there, alike u there));
}

-- the canonical types of a valid module are valid
pub section_valid : (features : Features) (groups : List (List SubType)) (indices : List ℕ) → AreCanonical groups indices
    → IsTypeSectionValid features groups
    → AreTypesValid features (space_of (canonical_groups indices groups))
section_valid features groups indices canonical valid =
    subst (λ (l : List ℕ). AreTypesValid features (space_of (canonical_groups l groups)))
    (unique_indices groups valid.indices indices valid.canonical canonical) valid.valid

-- a slice of groups is that of the canonical groups
pub record AreCanonicalGroups (groups slice : List (List SubType)) (indices : List ℕ) : Type 0 where
  pub canonical : AreCanonical groups indices
  pub is : slice ≡ canonical_groups indices groups

pub same_groups : (groups slice made : List (List SubType)) (indices given : List ℕ) → AreCanonical groups indices → given ≡ indices
    → made ≡ canonical_groups given groups → slice ≡ made → AreCanonicalGroups groups slice indices
same_groups groups slice made indices given canonical first second third =
    record { canonical = canonical; is = third ∙ second ∙ ap (λ (l : List ℕ). canonical_groups l groups) first }

pub few_types : (groups slice : List (List SubType)) (indices : List ℕ) → AreCanonicalGroups groups slice indices
    → length (space_of groups).types + 1 < 2 ^ 32 → length (space_of slice).types + 1 < 2 ^ 32
few_types groups slice indices known few =
    let same : length (space_of slice).types ≡ length (space_of groups).types =
    ap (λ (gs : List (List SubType)). length (space_of gs).types) known.is ∙ length-canonical (renamed (canonical_index indices))
    groups in
    omega (arith, same, few)

pub valid_slice : (features : Features) (groups slice : List (List SubType)) (indices : List ℕ) → AreCanonicalGroups groups slice indices
    → IsTypeSectionValid features groups → AreTypesValid features (space_of slice)
valid_slice features groups slice indices known valid =
    subst (λ (gs : List (List SubType)). AreTypesValid features (space_of gs)) (sym known.is)
    (section_valid features groups indices known.canonical valid)

-- if the canonical types do not follow one another, the types are not valid
pub none_valid : (features : Features) (groups slice : List (List SubType)) (indices : List ℕ) → AreCanonicalGroups groups slice indices
    → (AreFollowing (space_of slice).types → ⊥) → IsTypeSectionValid features groups → ⊥
none_valid features groups slice indices known never valid =
    never (valid_following features slice (valid_slice features groups slice indices known valid))

-- the space of the canonical types decides
pub decided : (features : Features) (groups slice : List (List SubType)) (indices : List ℕ) (space : GroupedTypes)
    (found : Option CheckedTypes) → AreCanonicalGroups groups slice indices → AreGroupsInScope 0 groups → space ≡ space_of slice
    → MatchOption found (AreTypesValid features space → ⊥) (λ types. AreTypesValid features space
    × (types ≡ record { indices = indices; space = space }))
    → MatchOption found (IsTypeSectionValid features groups → ⊥) (λ types. AreChecked features groups types)
decided features groups slice indices space None known scope made found =
    λ valid. found (subst (λ (s : GroupedTypes). AreTypesValid features s) (sym made)
    (valid_slice features groups slice indices known valid))
decided features groups slice indices space (Some types) known scope made (valid, is) =
    let by_indices : space ≡ space_of (canonical_groups indices groups) = made ∙ ap (λ (gs : List (List SubType)). space_of gs) known.is in
    let kept : CheckedTypes = record { indices = indices; space = space } in
    let checked : AreChecked features groups kept = record {
      valid = record {
        scope = scope;
        indices = indices;
        canonical = known.canonical;
        valid = subst (λ (s : GroupedTypes). AreTypesValid features s) by_indices valid;
      };
      canonical = known.canonical;
      space = by_indices;
    } in
    subst (λ (t : CheckedTypes). AreChecked features groups t) (sym is) checked
