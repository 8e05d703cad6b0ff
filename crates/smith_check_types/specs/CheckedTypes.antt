-- The types of a valid module, as the check keeps them.
use Rattle.std.specs.Prelude.{◌≡◌, List}
use Rattle.smith_types.specs.Syntax.Features.{Features}
use Rattle.smith_types.specs.Syntax.composite_type.SubType.{SubType}
use Rattle.smith_types.specs.Groups.{space_of}
use Rattle.smith_check_types.specs.Canonical.{AreCanonical}
use Rattle.smith_check_types.specs.TypeSections.{canonical_groups, IsTypeSectionValid}
use Rattle.smith_check_types.specs.declared.check.CheckedTypes.{CheckedTypes}

-- the groups are valid, and `types` has their canonical indices, and the types in terms of these
-- indices
pub record AreChecked (features : Features) (groups : List (List SubType)) (types : CheckedTypes) : Type 0 where
  pub valid : IsTypeSectionValid features groups
  pub canonical : AreCanonical groups types.indices
  pub space : types.space ≡ space_of (canonical_groups types.indices groups)
