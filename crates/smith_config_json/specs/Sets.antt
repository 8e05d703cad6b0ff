-- The change of a configuration by the value of a field. Rules of this project.
use Rattle.std.specs.Prelude.{◌≡◌, List, drop, Option, Some, None, Result, Ok, Err}
use Rattle.json.specs.Token.{Token, begin_array, null}
use Rattle.smith_types.specs.Syntax.instruction_kind.InstructionKinds.{InstructionKinds}
use Rattle.smith_config.specs.declared.config.Config.{Config}
use Rattle.smith_config.specs.declared.offset_choices.MemoryOffsetChoices.{MemoryOffsetChoices}
use Rattle.smith_config_json.specs.declared.fault.Fault.{Fault}
use Rattle.smith_config_json.specs.declared.fault.Fault.TheVariants.{UnknownField}
use Rattle.smith_config_json.specs.Fields.{Setter, Field, whole, truth, kinds, choices, file, preset}
use Rattle.smith_config_json.specs.Values.{map_ok, first, unwanted, whole_value, truth_value, file_value, preset_value, AreKinds, weights}

-- the configuration and the tokens after a value, or the fault
abbrev pub Outcome : Type 0
Outcome = Result (Config × List Token) Fault

-- the outcome of a value that sets nothing
abbrev pub outcome : Result (Unit {0}) Fault → Config → List Token → Outcome
outcome (Ok u) config rest = Ok (config, rest)
outcome (Err fault) config rest = Err fault

-- the field is set to a value; null leaves it unchanged
abbrev pub set_to : {A : Type 0} → Setter A → Config → List Token → Result (Option A) Fault → Outcome
set_to set config rest (Ok None) = Ok (config, rest)
set_to set config rest (Ok (Some x)) = Ok (set config x, rest)
set_to set config rest (Err fault) = Err fault

-- the field is set to the value that begins with a token: null leaves it unchanged, a list of three
-- weights sets it
abbrev pub set_choices : Setter MemoryOffsetChoices → Config → Token → List Token → Outcome
set_choices set config null rest = Ok (config, rest)
set_choices set config begin_array rest = set_to set config (drop 4 rest) (map_ok Some (weights rest))
set_choices set config t rest = Err (unwanted t)

-- `r` is the outcome of setting a field to the value at the front of the tokens
abbrev pub Sets : Option Field → Config → List Token → Outcome → Type 0
Sets None config ts r = r ≡ Err UnknownField
Sets (Some (whole most set)) config ts r = r ≡ set_to set config (drop 1 ts) (whole_value most (first ts))
Sets (Some (truth set)) config ts r = r ≡ set_to set config (drop 1 ts) (truth_value (first ts))
Sets (Some (kinds set)) config ts r =
    (v : Result (Option InstructionKinds) Fault) × (rest : List Token) × AreKinds (first ts) (drop 1 ts) v rest
    × (r ≡ set_to set config rest v)
Sets (Some (choices set)) config ts r = r ≡ set_choices set config (first ts) (drop 1 ts)
Sets (Some file) config ts r = r ≡ outcome (file_value (first ts)) config (drop 1 ts)
Sets (Some preset) config ts r = r ≡ outcome (preset_value (first ts)) config (drop 1 ts)
