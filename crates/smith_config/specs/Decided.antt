-- Properties of shapes and configurations stated part by part, as the decision procedures establish
-- them. The definitions are derived from these by proof.
use Rattle.std.specs.Prelude.{◌≡◌, ℕ, ◌≤◌, List, length}
use Rattle.smith_types.specs.GroupedTypes.{GroupedTypes}
use Rattle.smith_types.specs.Imports.{EntitySpaces}
use Rattle.smith_validity.specs.Decided.{AreFuncsValid, AreTagsValid, AreExportsFound}
use Rattle.smith_types.specs.Syntax.entity_type.ExportKind.{ExportKind}
use Rattle.smith_bytes.specs.declared.error.Count.{Count}
use Rattle.smith_config.specs.declared.config.Config.{Config}
use Rattle.smith_config.specs.declared.shape.Shape.{Shape}
use Rattle.smith_config.specs.Faults.{minimum_of, maximum_of, BoundsApply}
use Rattle.smith_config.specs.Shapes.{most_listed, space_of, shape_spaces}

-- no list of a shape is too long, apart from the lists within its types and imports
pub record AreListsShort (shape : Shape) : Type 0 where
  pub groups : length shape.groups ≤ most_listed
  pub import_groups : length shape.imports ≤ most_listed
  pub funcs : length shape.funcs ≤ most_listed
  pub tags : length shape.tags ≤ most_listed
  pub tables : length shape.tables ≤ most_listed
  pub memories : length shape.memories ≤ most_listed
  pub globals : length shape.globals ≤ most_listed
  pub exports : length shape.exports ≤ most_listed

-- functions, tags and exports refer to items that exist
pub record AreIndicesFound (space : GroupedTypes) (spaces : EntitySpaces) (exported : List (List ℕ × ExportKind × ℕ)) : Type 0 where
  pub of_funcs : AreFuncsValid space.types spaces.funcs
  pub of_tags : AreTagsValid space.types spaces.tags
  pub of_exports : AreExportsFound spaces exported

-- the type space and the index spaces are the shape's
pub record IsMade (shape : Shape) (space : GroupedTypes) (spaces : EntitySpaces) : Type 0 where
  pub types_are : space ≡ space_of shape.groups
  pub spaces_are : spaces ≡ shape_spaces shape

-- the bounds of a count do not apply, or the minimum is at most the maximum
pub record AreBoundsInOrder (config : Config) (count : Count) : Type 0 where
  pub kept : BoundsApply config count → minimum_of config count ≤ maximum_of config count
