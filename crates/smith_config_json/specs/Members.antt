-- The members of an object that are not fields of a configuration. Rules of this project.
use Rattle.std.specs.Prelude.{ℕ, ◌-◌, ◌^◌, List, [], ◌∷◌, Bool, false, Option, None, Result, Ok, Err, cond, codes}
use Rattle.std.specs.Str.{bytes_eq}
use Rattle.json.specs.Token.{Token, key, string, boolean, null}
use Rattle.smith_config_json.specs.declared.fault.Fault.{Fault}
use Rattle.smith_config_json.specs.declared.preset.Preset.{Preset}
use Rattle.smith_config_json.specs.Presets.{preset_named}
use Rattle.smith_config_json.specs.Values.{first, whole_value}

-- whether a token is the key with a name
abbrev pub is_key : List ℕ → Token → Bool
is_key name (key other) = bytes_eq other name
is_key name t = false

-- the first token of the value of the first member with a name; null if there is none
abbrev pub value_of : List ℕ → List Token → Token
value_of name [] = null
value_of name (t ∷ ts) = cond (is_key name t) (first ts) (value_of name ts)

-- the preset that a value names, if any
abbrev pub named_preset : Token → Option Preset
named_preset (string name) = preset_named name
named_preset t = None

-- the preset that the member `preset` of an object names, if any
abbrev pub preset_in : List Token → Option Preset
preset_in ts = named_preset (value_of (codes "preset") ts)

-- the number that was read, if any
abbrev pub or_none : Result (Option ℕ) Fault → Option ℕ
or_none (Ok n) = n
or_none (Err fault) = None

-- the number of the member `fuel` of an object, if any
abbrev pub fuel_in : List Token → Option ℕ
fuel_in ts = or_none (whole_value (2 ^ 32 - 1) (value_of (codes "fuel") ts))

-- whether a token is `true`
abbrev pub is_true : Token → Bool
is_true (boolean b) = b
is_true t = false

-- whether the member `fuel-export` of an object is true, so that the fuel counter is exported
abbrev pub is_fuel_exported_in : List Token → Bool
is_fuel_exported_in ts = is_true (value_of (codes "fuel-export") ts)

-- whether the member `observe` of an object is true, so that the program has sinks, and exports them
abbrev pub is_observed_in : List Token → Bool
is_observed_in ts = is_true (value_of (codes "observe") ts)
