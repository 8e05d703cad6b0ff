-- The start function. Rules of this project.
use Rattle.std.specs.Prelude.{ℕ, Bool, false, ◌&&◌, nat_lt, List, length, Option, Some, None, if◌then◌else◌}
use Rattle.smith_draw_contents.specs.Common.{bool_at, chosen_at, Config, places_from, SubType}
use Rattle.smith_draw_types.specs.TypeUses.{is_start_type}

-- the indices of the possible start functions, imported or defined: functions without parameters
-- and results
abbrev pub start_funcs : List SubType → List ℕ → List ℕ
start_funcs types funcs = places_from (is_start_type types) 0 funcs

-- whether there is a start function: a drawn bool if that is allowed and possible, else false
unfoldable pub start_wanted_at : Config → ℕ → List ℕ → Bool × List ℕ
start_wanted_at config count bytes = if config.allow_start_export && nat_lt 0 count then bool_at bytes else (false, bytes)

-- the start function, chosen among the possible ones
unfoldable pub start_at : Config → List SubType → List ℕ → List ℕ → Option ℕ × List ℕ
start_at config types funcs bytes =
    let choices = start_funcs types funcs in
    let wanted = start_wanted_at config (length choices) bytes in
    let chosen = chosen_at 0 choices wanted.1 in
    if wanted.0 then (Some chosen.0, chosen.1) else (None, wanted.1)
