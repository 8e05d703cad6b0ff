-- Requests in the text of a configuration, and the program for a request and an input.
use Rattle.std.specs.Prelude.{◌≡◌, ℕ, List, [], ◌∷◌, false, Option, None, option_map, Ok}
use Rattle.json.specs.Lex.{tokens}
use Rattle.json.specs.Token.{Token}
use Rattle.smith_config.specs.Config.{default_config}
use Rattle.smith_config.specs.declared.config.Config.{Config}
use Rattle.smith_config_json.specs.Members.{fuel_in, is_fuel_exported_in, is_observed_in}
use Rattle.smith_config_json.specs.Objects.{ReadsText}
use Rattle.smith_request.specs.Output.{IsBinaryOf, IsWrittenText}
use Rattle.smith_request.specs.declared.additions.Additions.{Additions}
use Rattle.smith_request.specs.declared.additions.Fuel.{Fuel}
use Rattle.smith_request.specs.declared.request.Request.{Request}

-- the configuration of a text: the default if the text is empty, or else that of the JSON object
pub data IsConfigured (text : List ℕ) (config : Config) : Type 0 where
  by_default : text ≡ [] → config ≡ default_config → IsConfigured text config
  read : ReadsText text (Ok config) → IsConfigured text config

-- the fuel of a JSON object, and whether it is exported
abbrev pub fuel_of_tokens : List Token → Option Fuel
fuel_of_tokens ts = option_map (λ amount. record { amount = amount; is_exported = is_fuel_exported_in ts }) (fuel_in ts)

-- what a JSON object adds to a program
abbrev pub additions_of_tokens : List Token → Additions
additions_of_tokens ts = record { fuel = fuel_of_tokens ts; is_observed = is_observed_in ts }

-- what a text adds to a program: nothing if the text is empty, else what the JSON object adds
abbrev pub additions_of : List ℕ → Additions
additions_of [] = record { fuel = None; is_observed = false }
additions_of (b ∷ bytes) = additions_of_tokens (tokens (b ∷ bytes))

-- the request of a text: its configuration and its additions
pub record IsRequest (text : List ℕ) (request : Request) : Type 0 where
  pub configured : IsConfigured text request.config
  pub additions : request.additions ≡ additions_of text

-- the bytes are the file of the program for a text and an input
pub record IsBinary (text input bytes : List ℕ) : Type 0 where
  pub config : Config
  pub configured : IsConfigured text config
  pub left : List ℕ
  pub binary : IsBinaryOf config (additions_of text) input bytes left

-- the program for a text and an input exists, and has a file
abbrev pub HasBinary : List ℕ → List ℕ → Type 0
HasBinary text input = (bytes : List ℕ) × IsBinary text input bytes

-- the program for a text and an input exists, and the bytes are a text
pub record IsTextOf (text input bytes : List ℕ) : Type 0 where
  pub config : Config
  pub configured : IsConfigured text config
  pub left : List ℕ
  pub written : IsWrittenText config input bytes left

-- the bytes are the file of the program for a request and an input
pub record IsBinaryFor (request : Request) (input bytes : List ℕ) : Type 0 where
  pub left : List ℕ
  pub binary : IsBinaryOf request.config request.additions input bytes left

-- the program for a request and an input exists, and has a file
abbrev pub HasBinaryFor : Request → List ℕ → Type 0
HasBinaryFor request input = (bytes : List ℕ) × IsBinaryFor request input bytes

-- the program for a request and an input exists, and the bytes are a text
pub record IsTextFor (request : Request) (input bytes : List ℕ) : Type 0 where
  pub left : List ℕ
  pub written : IsWrittenText request.config input bytes left
