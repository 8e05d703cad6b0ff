-- The change of a configuration by an object. Rules of this project.
use Rattle.std.specs.Prelude.{◌≡◌, ℕ, List, [], ◌∷◌, ◌++◌, Some, None, Result, Ok, Err, Bool, true, false}
use Rattle.std.specs.List.{list_any}
use Rattle.std.specs.Str.{bytes_eq}
use Rattle.json.specs.Token.{Token, begin_object}
use Rattle.json.specs.Json.{read_key}
use Rattle.json.specs.Lex.{tokens}
use Rattle.smith_config.specs.Config.{default_config}
use Rattle.smith_config.specs.declared.config.Config.{Config}
use Rattle.smith_config_json.specs.declared.fault.Fault.{Fault}
use Rattle.smith_config_json.specs.declared.fault.Fault.TheVariants.{NotAnObject, RepeatedField, TextAfter}
use Rattle.smith_config_json.specs.Fields.{field_named}
use Rattle.smith_config_json.specs.Members.{preset_in}
use Rattle.smith_config_json.specs.Presets.{changed_by}
use Rattle.smith_config_json.specs.Sets.{Sets}

-- whether an earlier member has this name
abbrev pub is_given : List (List ℕ) → List ℕ → Bool
is_given given name = list_any (λ other. bytes_eq other name) given

-- the configuration and the tokens after an object; or the first fault, the name of its member, and
-- the configuration after the members before it
abbrev pub Reading : Type 0
Reading = Result (Config × List Token) (Fault × List ℕ × Config)

-- the result of the members up to the end of the object, after members with the names `given`
pub data ReadsMembers : List (List ℕ) → Config → List Token → Reading → Type 0 where
  ends : {given : List (List ℕ)} {config : Config} {ts rest : List Token} →
      read_key ts ≡ Some (None, rest) → ReadsMembers given config ts (Ok (config, rest))
  breaks : {given : List (List ℕ)} {config : Config} {ts : List Token} →
      read_key ts ≡ None → ReadsMembers given config ts (Err (NotAnObject, [], config))
  repeats : {given : List (List ℕ)} {config : Config} {ts rest : List Token} {name : List ℕ} →
      read_key ts ≡ Some (Some name, rest) → is_given given name ≡ true → ReadsMembers given config ts (Err (RepeatedField, name, config))
  refuses : {given : List (List ℕ)} {config : Config} {ts rest : List Token} {name : List ℕ} {fault : Fault} →
      read_key ts ≡ Some (Some name, rest) → is_given given name ≡ false → Sets (field_named name) config rest (Err fault) →
      ReadsMembers given config ts (Err (fault, name, config))
  sets : {given : List (List ℕ)} {config next : Config} {ts rest after : List Token} {name : List ℕ} {r : Reading} →
      read_key ts ≡ Some (Some name, rest) → is_given given name ≡ false → Sets (field_named name) config rest (Ok (next, after)) →
      ReadsMembers (given ++ name ∷ []) next after r → ReadsMembers given config ts r

-- the result of an object for a configuration
abbrev pub ReadsObject : Config → List Token → Reading → Type 0
ReadsObject config [] r = r ≡ Err (NotAnObject, [], config)
ReadsObject config (begin_object ∷ ts) r = ReadsMembers [] config ts r
ReadsObject config (t ∷ ts) r = r ≡ Err (NotAnObject, [], config)

-- the result for an object that nothing may follow
abbrev pub alone : Reading → Reading
alone (Ok (config, [])) = Ok (config, [])
alone (Ok (config, t ∷ ts)) = Err (TextAfter, [], config)
alone (Err e) = Err e

-- the result of a whole text for a configuration; a preset changes it before any member is read
abbrev pub ReadsAlone : Config → List ℕ → Reading → Type 0
ReadsAlone config text r = (s : Reading) × ReadsObject (changed_by (preset_in (tokens text)) config) (tokens text) s × (r ≡ alone s)

-- the configuration of a whole text, or the first fault and the name of its member
abbrev pub ReadsText : List ℕ → Result Config (Fault × List ℕ) → Type 0
ReadsText text (Ok config) = ReadsAlone default_config text (Ok (config, []))
ReadsText text (Err (fault, name)) = (left : Config) × ReadsAlone default_config text (Err (fault, name, left))
