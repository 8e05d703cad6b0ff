-- Drawing types from bytes that spell them.
use Rattle.std.specs.Prelude.{◌≡◌, ℕ, false, List, [], ◌++◌}
use Rattle.smith_types.specs.Expressions.{Context}
use Rattle.smith_types.specs.Syntax.composite_type.SubType.{SubType}
use Rattle.smith_config.specs.declared.config.Config.{Config}
use Rattle.smith_config.specs.Features.{features_of}
use Rattle.smith_config.specs.Sanitized.{IsSanitized}
use Rattle.smith_config.specs.Shapes.{space_of}
use Rattle.smith_draw_types.specs.RecGroups.{types_at}
use Rattle.smith_draw_types.specs.Spelling.{SpellsGroups}
use Rattle.smith_spell.specs.Family.{IsInFamily}

-- with a minimum of 0 types, each piece that spells the groups of a member of the family gives
-- these groups when types are drawn from it, and the bytes after it are left, whichever functions
-- exist
abbrev pub GroupsAreRead : Type 0
GroupsAreRead =
    (config : Config) (functions : Context) (groups : List (List SubType)) (funcs : List ℕ) (piece after : List ℕ)
    → functions.features ≡ features_of config → IsSanitized config → config.min_types ≡ 0
    → IsInFamily config groups funcs → SpellsGroups config [] false groups piece → types_at config functions (space_of []) (piece ++ after)
    ≡ (space_of groups, after)
