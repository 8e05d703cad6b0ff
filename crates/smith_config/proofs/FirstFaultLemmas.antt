-- The first fault of a shape, from the tests that it passes and the one that it fails.
use Rattle.std.proofs.Common.{◌≡◌, ◌↔◌, ℕ, Bool, true, false, IsTrue, List, [], ◌∷◌, ◌++◌, map, refl, subst}
use Rattle.std.specs.List.{AllByRecursion as Each}
use Rattle.std.proofs.lemmas.List.Elements.{All-from_recursion}
use Rattle.smith_bytes.specs.declared.error.Which.{Which}
use Rattle.smith_bytes.specs.declared.error.Which.TheVariants.{AvailableImports, Exports, ModuleShape}
use Rattle.smith_bytes.specs.declared.error.ShapeFault.{ShapeFault}
use Rattle.smith_bytes.specs.declared.error.ShapeFault.TheVariants as fault
use Rattle.smith_types.specs.Syntax.Features.{every_feature}
use Rattle.smith_types.specs.GroupedTypes.{GroupedTypes}
use Rattle.smith_types.specs.Imports.{EntitySpaces}
use Rattle.smith_types.specs.Exports.{AreDistinct}
use Rattle.smith_types.specs.Groups.{AreFollowing}
use Rattle.smith_types.specs.Syntax.entity_type.ExportKind.{ExportKind}
use Rattle.smith_types.proofs.GroupsAddedLemmas.{valid_following}
use Rattle.smith_config.specs.declared.config.Config.{Config}
use Rattle.smith_config.specs.declared.shape.Shape.{Shape}
use Rattle.smith_config.specs.Features.{features_of}
use Rattle.smith_config.specs.Shapes.{IsShapeValid, IsShort, IsPlain, HasNothingLeftOut, space_of, shape_types, shape_spaces}
use Rattle.smith_config.specs.ShapeFaults.{AreTypesRight, AreIndicesRight, AreLimitsRight, AreFeaturesOn, IsFirstShapeFault, HasShapeFault}
use Rattle.smith_config.specs.ShapeFaults.{shape_faults}
use Rattle.smith_config.specs.Decided.{IsMade}
use Rattle.smith_config.proofs.ShapeLemmas.{would_do}

-- a test that succeeds, and one that fails
pub passed : {P : Type 0} (r : Bool) → IsTrue r ↔ P → r ≡ true → P
passed r decides holds = decides.0 holds

pub failed : {P : Type 0} (r : Bool) → IsTrue r ↔ P → r ≡ false → P → ⊥
failed r decides bad h = let holds : r ≡ true = decides.1 h in cc

-- a property of the constructed types and spaces holds for those of the shape, and conversely
pub moved : (P : GroupedTypes → EntitySpaces → Type 0) (shape : Shape) (space : GroupedTypes) (spaces : EntitySpaces)
    → IsMade shape space spaces → P space spaces → P (space_of shape.groups) (shape_spaces shape)
moved P shape space spaces made h = subst (λ (s : GroupedTypes). P s (shape_spaces shape)) made.types_are
    (subst (λ (s : EntitySpaces). P space s) made.spaces_are h)

pub test_moved : (P : GroupedTypes → EntitySpaces → Type 0) (shape : Shape) (space : GroupedTypes) (spaces : EntitySpaces) (r : Bool)
    → IsMade shape space spaces → IsTrue r ↔ P space spaces → IsTrue r ↔ P (space_of shape.groups) (shape_spaces shape)
test_moved P shape space spaces r made decides = moved (λ s t. IsTrue r ↔ P s t) shape space spaces made decides

not_plain : {P : Type 0} (which : Which) → ((which ≡ Exports → P) → ⊥) → (which ≡ Exports) × (P → ⊥)
not_plain AvailableImports bad = absurd (bad (λ other. cc other))
not_plain Exports bad = (refl, λ plain. bad (λ _. plain))
not_plain ModuleShape bad = absurd (bad (λ other. cc other))

module _ (which : Which) (config : Config) (shape : Shape) where
  -- none of these faults
  abbrev Clear : List ShapeFault → Type 0
  Clear faults = Each (λ other. ¬ HasShapeFault which config shape other) faults

  first : (before : List ShapeFault) (found : ShapeFault) (after : List ShapeFault) → shape_faults ≡ before ++ found ∷ after → Clear before
      → HasShapeFault which config shape found
      → IsFirstShapeFault which config shape found
  first before found after order clear there = record {
    before = before;
    after = after;
    order = order;
    earlier = All-from_recursion (λ other. ¬ HasShapeFault which config shape other) before clear;
    there = there;
  }

  pub first_too_long : (IsShort shape → ⊥) → IsFirstShapeFault which config shape fault.TooLong
  first_too_long bad = first ([]) fault.TooLong (fault.BadType ∷ fault.Index ∷ fault.Limit ∷ fault.Feature ∷ fault.DuplicateExport
      ∷ fault.NotPlain ∷ fault.LeftOut ∷ []) refl tt bad

  pub first_bad_type : IsShort shape → (AreTypesRight shape → ⊥) → IsFirstShapeFault which config shape fault.BadType
  first_bad_type short bad = first (fault.TooLong ∷ []) fault.BadType (fault.Index ∷ fault.Limit ∷ fault.Feature ∷ fault.DuplicateExport
      ∷ fault.NotPlain ∷ fault.LeftOut ∷ []) refl (λ wrong. wrong short, tt) bad

  pub first_index : IsShort shape → AreTypesRight shape → (AreIndicesRight shape → ⊥) → IsFirstShapeFault which config shape fault.Index
  first_index short right bad = first (fault.TooLong ∷ fault.BadType ∷ []) fault.Index (fault.Limit ∷ fault.Feature ∷ fault.DuplicateExport
      ∷ fault.NotPlain ∷ fault.LeftOut ∷ []) refl (λ wrong. wrong short, (λ wrong. wrong right, tt)) bad

  pub first_limit : IsShort shape → AreTypesRight shape → AreIndicesRight shape → (AreLimitsRight shape → ⊥)
      → IsFirstShapeFault which config shape fault.Limit
  first_limit short right indices bad = first (fault.TooLong ∷ fault.BadType ∷ fault.Index ∷ []) fault.Limit
      (fault.Feature ∷ fault.DuplicateExport ∷ fault.NotPlain ∷ fault.LeftOut ∷ []) refl
      (λ wrong. wrong short, (λ wrong. wrong right, (λ wrong. wrong indices, tt))) bad

  pub first_feature : IsShort shape → AreTypesRight shape → AreIndicesRight shape → AreLimitsRight shape
      → (AreFeaturesOn which (features_of config) shape → ⊥) → IsFirstShapeFault which config shape fault.Feature
  first_feature short right indices limits bad = first (fault.TooLong ∷ fault.BadType ∷ fault.Index ∷ fault.Limit ∷ []) fault.Feature
      (fault.DuplicateExport ∷ fault.NotPlain ∷ fault.LeftOut ∷ []) refl
      (λ wrong. wrong short, (λ wrong. wrong right, (λ wrong. wrong indices, (λ wrong. wrong limits, tt))))
      (would_do which config shape right limits, bad)

  pub first_duplicate : IsShort shape → AreTypesRight shape → AreIndicesRight shape → AreLimitsRight shape
      → AreFeaturesOn which (features_of config) shape → (AreDistinct (map (λ (one : List ℕ × ExportKind × ℕ). one.0) shape.exports) → ⊥)
      → IsFirstShapeFault which config shape fault.DuplicateExport
  first_duplicate short right indices limits on bad = first (fault.TooLong ∷ fault.BadType ∷ fault.Index ∷ fault.Limit ∷ fault.Feature ∷ [])
      fault.DuplicateExport (fault.NotPlain ∷ fault.LeftOut ∷ []) refl
      (λ wrong. wrong short, (λ wrong. wrong right, (λ wrong. wrong indices, (λ wrong. wrong limits, (λ wrong. wrong.1 on, tt))))) bad

  pub first_not_plain : IsShort shape → AreTypesRight shape → AreIndicesRight shape → AreLimitsRight shape
      → AreFeaturesOn which (features_of config) shape → AreDistinct (map (λ (one : List ℕ × ExportKind × ℕ). one.0) shape.exports)
      → ((which ≡ Exports → IsPlain shape) → ⊥) → IsFirstShapeFault which config shape fault.NotPlain
  first_not_plain short right indices limits on distinct bad =
      first (fault.TooLong ∷ fault.BadType ∷ fault.Index ∷ fault.Limit ∷ fault.Feature ∷ fault.DuplicateExport ∷ []) fault.NotPlain
      (fault.LeftOut ∷ []) refl (
        λ wrong. wrong short,
        (λ wrong. wrong right, (λ wrong. wrong indices, (λ wrong. wrong limits, (λ wrong. wrong.1 on, (λ wrong. wrong distinct, tt))))),
      )
      (not_plain which bad)

  pub first_left_out : IsShort shape → AreTypesRight shape → AreIndicesRight shape → AreLimitsRight shape
      → AreFeaturesOn which (features_of config) shape → AreDistinct (map (λ (one : List ℕ × ExportKind × ℕ). one.0) shape.exports)
      → (which ≡ Exports → IsPlain shape) → (HasNothingLeftOut shape → ⊥) → IsFirstShapeFault which config shape fault.LeftOut
  first_left_out short right indices limits on distinct plain bad =
      first (fault.TooLong ∷ fault.BadType ∷ fault.Index ∷ fault.Limit ∷ fault.Feature ∷ fault.DuplicateExport ∷ fault.NotPlain ∷ [])
      fault.LeftOut ([]) refl (
        λ wrong. wrong short,
        (
          λ wrong. wrong right,
          (
            λ wrong. wrong indices,
            (λ wrong. wrong limits, (λ wrong. wrong.1 on, (λ wrong. wrong distinct, (λ wrong. wrong.1 (plain wrong.0), tt)))),
          ),
        ),
      ) bad

  pub follows_not : IsShort shape → (AreFollowing (shape_types shape) → ⊥) → IsFirstShapeFault which config shape fault.BadType
  follows_not short bad = first_bad_type short (λ right. bad (valid_following every_feature (space_of shape.groups) right.types))

  pub valid_at_last : IsShort shape → AreTypesRight shape → AreIndicesRight shape → AreLimitsRight shape
      → AreFeaturesOn which (features_of config) shape → AreDistinct (map (λ (one : List ℕ × ExportKind × ℕ). one.0) shape.exports)
      → (which ≡ Exports → IsPlain shape) → HasNothingLeftOut shape → IsShapeValid which config shape
  valid_at_last short right indices limits on distinct plain nothing = record {
    short = short;
    nothing_left_out = nothing;
    consistent = record {
      types = on.types;
      shallow = limits.shallow;
      entities = record { tags = indices.tags; funcs = indices.funcs; tables = on.tables; memories = on.memories; globals = on.globals };
      exports = record { stand = indices.exports; distinct = distinct };
    };
    counts = on.counts;
    plain = plain;
  }
