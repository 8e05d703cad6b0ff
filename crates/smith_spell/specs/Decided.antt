-- Rules of the family stated part by part, as the decision procedures test them.
use Rattle.std.specs.Prelude.{◌≡◌, ◌<◌, ◌≤◌, false, IsTrue, List, [], ◌∷◌, ◌++◌, length, All}
use Rattle.std.specs.List.{list_any}
use Rattle.smith_types.specs.Grounds.{is_ground_of}
use Rattle.smith_types.specs.Groups.{space_of}
use Rattle.smith_types.specs.Syntax.value_type.AbstractHeapType.{AbstractHeapType}
use Rattle.smith_types.specs.Syntax.value_type.AbstractHeapType.TheVariants.{Func, Extern, Any, None, NoExtern, NoFunc, Eq, Struct}
use Rattle.smith_types.specs.Syntax.value_type.AbstractHeapType.TheVariants.{Array, I31, Exn, NoExn}
use Rattle.smith_types.specs.Syntax.composite_type.SubType.{SubType}
use Rattle.smith_config.specs.declared.config.Config.{Config}
use Rattle.smith_config.specs.InUse.{HasNoShapes}
use Rattle.smith_draw_types.specs.Spelling.{IsRoot}
use Rattle.smith_spell.specs.declared.earlier.Known.{Known}
use Rattle.smith_spell.specs.Family.{IsMemberType}
use Rattle.smith_config.specs.Minimums.{HasNoMinimums}

-- the configuration has no minimums and no shapes, and does not export everything
pub record AsksForNothing (config : Config) : Type 0 where
  pub no_minimums : HasNoMinimums config
  pub no_shapes : HasNoShapes config
  pub not_everything : config.export_everything ≡ false

-- an abstract heap type can be drawn for the configuration
abbrev pub IsOffered : Config → AbstractHeapType → Type 0
IsOffered config Func = Unit {0}
IsOffered config Extern = Unit {0}
IsOffered config Exn = IsTrue config.exceptions_enabled
IsOffered config NoExn = ⊥
IsOffered config Any = IsTrue config.gc_enabled
IsOffered config None = IsTrue config.gc_enabled
IsOffered config NoExtern = IsTrue config.gc_enabled
IsOffered config NoFunc = IsTrue config.gc_enabled
IsOffered config Eq = IsTrue config.gc_enabled
IsOffered config Struct = IsTrue config.gc_enabled
IsOffered config Array = IsTrue config.gc_enabled
IsOffered config I31 = IsTrue config.gc_enabled

-- each type is a member after the types `before` and the types in front of it
abbrev pub AreMembersAfter : Config → List SubType → List SubType → Type 0
AreMembersAfter config before [] = Unit {0}
AreMembersAfter config before (t ∷ types) = IsMemberType config before t × AreMembersAfter config (before ++ t ∷ []) types

-- facts about types without supertypes: their number, and whether one is ground, i.e. an unshared
-- struct type whose fields all have defaults
pub record IsKnown (types : List SubType) (known : Known) : Type 0 where
  pub counted : known.count ≡ length types
  pub grounds : known.has_ground ≡ list_any (is_ground_of false) types
  pub roots : All IsRoot types

-- lists of the family may have these groups
pub record AreGroupsInFamily (config : Config) (groups : List (List SubType)) : Type 0 where
  pub filled : All (λ (group : List SubType). 0 < length group) groups
  pub single : config.gc_enabled ≡ false → All (λ (group : List SubType). length group ≡ 1) groups
  pub few_types : length (space_of groups).types ≤ config.max_types
  pub members : AreMembersAfter config [] (space_of groups).types
