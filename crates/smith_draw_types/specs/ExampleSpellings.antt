-- A piece of bytes that spells a list of groups, used by the examples.
use Rattle.std.specs.Prelude.{◌≡◌, ◌<◌, true, false, None, [], ◌∷◌}
use Rattle.smith_draw_types.specs.Common.{Config, Func, SubType}
use Rattle.smith_draw_types.specs.Spelling.{SpellsGroups}

-- a function type without parameters and results
abbrev pub plain_function : SubType
plain_function = record {
  is_final = true;
  supertype = None;
  composite_type = record {
    inner = Func (record { params = []; results = [] });
    shared = false;
  };
}

-- without garbage collection: a group, no parameter, no result, and no further group
abbrev pub OneFunctionIsSpelled : Type 0
OneFunctionIsSpelled = (config : Config) → config.gc_enabled ≡ false → 1 < config.max_types
    → SpellsGroups config [] false ((plain_function ∷ []) ∷ []) (1 ∷ 0 ∷ 0 ∷ 0 ∷ [])

-- a byte that starts another group does not end the groups
abbrev pub MoreIsAskedFor : Type 0
MoreIsAskedFor = (config : Config) → 0 < config.max_types → ¬ SpellsGroups config [] false [] (1 ∷ [])
