-- A request has no shapes.
use Rattle.std.proofs.Common.{◌≡◌, ℕ, List, [], ◌∷◌, Bool, true, false, Option, Some, None, Result, Ok, Err, refl, subst, ap, ◌∙◌}
use Rattle.std.specs.Prelude.{cond, drop, ⊤}
use Rattle.std.specs.Str.{bytes_eq}
use Rattle.json.specs.Lex.{tokens}
use Rattle.json.specs.Token.{Token, begin_object, end_object, begin_array, end_array, key, string, number, boolean, null, bad}
use Rattle.smith_config.specs.Config.{default_config}
use Rattle.smith_config.specs.InUse.{HasNoShapes}
use Rattle.smith_config.specs.Shapes.{Shapes}
use Rattle.smith_config.specs.declared.config.Config.{Config}
use Rattle.smith_config.specs.declared.offset_choices.MemoryOffsetChoices.{MemoryOffsetChoices}
use Rattle.smith_config_json.specs.declared.fault.Fault.{Fault}
use Rattle.smith_config_json.specs.declared.preset.Preset.{Preset}
use Rattle.smith_config_json.specs.declared.preset.Preset.TheVariants.{Run, Version1, Version2, Version3, Proposals, Wabt, Binaryen, V8}
use Rattle.smith_config_json.specs.declared.preset.Preset.TheVariants.{SpiderMonkey, JavaScriptCore}
use Rattle.smith_config_json.specs.Fields.{Setter, Table, Field, named, fields, field_named, whole, truth, kinds, choices, file, preset}
use Rattle.smith_config_json.specs.Members.{preset_in}
use Rattle.smith_config_json.specs.Objects.{Reading, ReadsMembers, ReadsObject, ReadsText, alone}
use Rattle.smith_config_json.specs.Presets.{with_preset, changed_by}
use Rattle.smith_config_json.specs.Sets.{Sets, outcome, set_to, set_choices}
use Rattle.smith_request.specs.Requests.{IsConfigured, IsRequest}
use Rattle.smith_request.specs.declared.request.Request.{Request}
use Rattle.smith_config_json.specs.Values.{map_ok, first, whole_value, truth_value, file_value, preset_value, weights}

abbrev shapes : Config → Shapes
shapes config = record { available_imports = config.available_imports; exports = config.exports; module_shape = config.module_shape }

-- the shapes of a configuration that was read, or others if none was
abbrev shapes_after : {E : Type 0} → Shapes → Result (Config × List Token) E → Shapes
shapes_after others (Ok (config, ts)) = shapes config
shapes_after others (Err e) = others

-- setting a field leaves the shapes as they are
abbrev Keeps : {A : Type 0} → Setter A → Type 0
Keeps {A = A} set = (config : Config) (x : A) → shapes (set config x) ≡ shapes config

abbrev FieldKeeps : Field → Type 0
FieldKeeps (whole most set) = Keeps set
FieldKeeps (truth set) = Keeps set
FieldKeeps (kinds set) = Keeps set
FieldKeeps (choices set) = Keeps set
FieldKeeps file = ⊤
FieldKeeps preset = ⊤

abbrev SomeKeeps : Option Field → Type 0
SomeKeeps None = ⊤
SomeKeeps (Some field) = FieldKeeps field

abbrev AllKeep : Table Field → Type 0
AllKeep [] = ⊤
AllKeep (entry ∷ entries) = FieldKeeps entry.1 × AllKeep entries

picked : (b : Bool) (field : Field) (later : Option Field) → FieldKeeps field → SomeKeeps later → SomeKeeps (cond b (Some field) later)
picked true field later one others = one
picked false field later one others = others

named_keeps : (name : List ℕ) (entries : Table Field) → AllKeep entries → SomeKeeps (named name entries)
named_keeps name [] keep = tt
named_keeps name (entry ∷ entries) keep = picked (bytes_eq name entry.0) entry.1 (named name entries) keep.0
    (named_keeps name entries keep.1)

keep_from_70 : AllKeep (drop 70 fields)
unfolding fields
keep_from_70 = (tt, (tt, ((λ config x. refl), ((λ config x. refl), ((λ config x. refl), tt)))))

keep_from_65 : AllKeep (drop 65 fields)
unfolding fields
keep_from_65 = ((λ config x. refl), ((λ config x. refl), ((λ config x. refl), (tt, (tt, keep_from_70)))))

keep_from_60 : AllKeep (drop 60 fields)
unfolding fields
keep_from_60 = ((λ config x. refl), ((λ config x. refl), ((λ config x. refl), ((λ config x. refl), ((λ config x. refl), keep_from_65)))))

keep_from_55 : AllKeep (drop 55 fields)
unfolding fields
keep_from_55 = ((λ config x. refl), ((λ config x. refl), ((λ config x. refl), ((λ config x. refl), ((λ config x. refl), keep_from_60)))))

keep_from_50 : AllKeep (drop 50 fields)
unfolding fields
keep_from_50 = ((λ config x. refl), ((λ config x. refl), ((λ config x. refl), ((λ config x. refl), ((λ config x. refl), keep_from_55)))))

keep_from_45 : AllKeep (drop 45 fields)
unfolding fields
keep_from_45 = ((λ config x. refl), ((λ config x. refl), ((λ config x. refl), ((λ config x. refl), ((λ config x. refl), keep_from_50)))))

keep_from_40 : AllKeep (drop 40 fields)
unfolding fields
keep_from_40 = ((λ config x. refl), ((λ config x. refl), ((λ config x. refl), ((λ config x. refl), ((λ config x. refl), keep_from_45)))))

keep_from_35 : AllKeep (drop 35 fields)
unfolding fields
keep_from_35 = ((λ config x. refl), ((λ config x. refl), ((λ config x. refl), ((λ config x. refl), ((λ config x. refl), keep_from_40)))))

keep_from_30 : AllKeep (drop 30 fields)
unfolding fields
keep_from_30 = ((λ config x. refl), ((λ config x. refl), ((λ config x. refl), ((λ config x. refl), ((λ config x. refl), keep_from_35)))))

keep_from_25 : AllKeep (drop 25 fields)
unfolding fields
keep_from_25 = ((λ config x. refl), ((λ config x. refl), ((λ config x. refl), ((λ config x. refl), ((λ config x. refl), keep_from_30)))))

keep_from_20 : AllKeep (drop 20 fields)
unfolding fields
keep_from_20 = ((λ config x. refl), ((λ config x. refl), ((λ config x. refl), ((λ config x. refl), ((λ config x. refl), keep_from_25)))))

keep_from_15 : AllKeep (drop 15 fields)
unfolding fields
keep_from_15 = ((λ config x. refl), ((λ config x. refl), ((λ config x. refl), ((λ config x. refl), ((λ config x. refl), keep_from_20)))))

keep_from_10 : AllKeep (drop 10 fields)
unfolding fields
keep_from_10 = ((λ config x. refl), ((λ config x. refl), ((λ config x. refl), ((λ config x. refl), ((λ config x. refl), keep_from_15)))))

keep_from_5 : AllKeep (drop 5 fields)
unfolding fields
keep_from_5 = ((λ config x. refl), ((λ config x. refl), ((λ config x. refl), ((λ config x. refl), ((λ config x. refl), keep_from_10)))))

fields_keep : AllKeep fields
unfolding fields
fields_keep = ((λ config x. refl), ((λ config x. refl), ((λ config x. refl), ((λ config x. refl), ((λ config x. refl), keep_from_5)))))

set_to_keeps : {A : Type 0} (set : Setter A) → Keeps set → (config : Config) (rest : List Token) (r : Result (Option A) Fault)
    → shapes_after (shapes config) (set_to set config rest r) ≡ shapes config
set_to_keeps set keep config rest (Ok None) = refl
set_to_keeps set keep config rest (Ok (Some x)) = keep config x
set_to_keeps set keep config rest (Err fault) = refl

choices_keep : (set : Setter MemoryOffsetChoices) → Keeps set → (config : Config) (t : Token) (rest : List Token)
    → shapes_after (shapes config) (set_choices set config t rest) ≡ shapes config
choices_keep set keep config null rest = refl
choices_keep set keep config begin_array rest = set_to_keeps set keep config _ (map_ok Some (weights rest))
choices_keep set keep config begin_object rest = refl
choices_keep set keep config end_object rest = refl
choices_keep set keep config end_array rest = refl
choices_keep set keep config (key s) rest = refl
choices_keep set keep config (string s) rest = refl
choices_keep set keep config (number s) rest = refl
choices_keep set keep config (boolean b) rest = refl
choices_keep set keep config bad rest = refl

outcome_keeps : (r : Result (Unit {0}) Fault) (config : Config) (rest : List Token) → shapes_after (shapes config) (outcome r config rest)
    ≡ shapes config
outcome_keeps (Ok u) config rest = refl
outcome_keeps (Err fault) config rest = refl

after : {r s : Result (Config × List Token) Fault} (config : Config) → r ≡ s → shapes_after (shapes config) s ≡ shapes config
    → shapes_after (shapes config) r ≡ shapes config
after config same keeps = ap (shapes_after (shapes config)) same ∙ keeps

sets_keep : (field : Option Field) → SomeKeeps field → (config : Config) (ts : List Token) (r : Result (Config × List Token) Fault)
    → Sets field config ts r
    → shapes_after (shapes config) r ≡ shapes config
sets_keep None keep config ts r h = after config h refl
sets_keep (Some (whole most set)) keep config ts r h = after config h (set_to_keeps set keep config _ (whole_value most (first ts)))
sets_keep (Some (truth set)) keep config ts r h = after config h (set_to_keeps set keep config _ (truth_value (first ts)))
sets_keep (Some (kinds set)) keep config ts r h = after config h.3 (set_to_keeps set keep config h.1 h.0)
sets_keep (Some (choices set)) keep config ts r h = after config h (choices_keep set keep config (first ts) _)
sets_keep (Some file) keep config ts r h = after config h (outcome_keeps (file_value (first ts)) config _)
sets_keep (Some preset) keep config ts r h = after config h (outcome_keeps (preset_value (first ts)) config _)

members_keep : {given : List (List ℕ)} {config : Config} {ts : List Token} {r : Reading} → ReadsMembers given config ts r
    → shapes_after (shapes config) r ≡ shapes config
members_keep (ReadsMembers.ends _) = refl
members_keep (ReadsMembers.breaks _) = refl
members_keep (ReadsMembers.repeats _ _) = refl
members_keep (ReadsMembers.refuses _ _ _) = refl
members_keep (ReadsMembers.sets {config = config} {next = next} {rest = rest} {name = name} {r = r} _ _ set others) =
    let same = sets_keep (field_named name) (named_keeps name fields fields_keep) config rest _ set in
    subst (λ (s : Shapes). shapes_after s r ≡ s) same (members_keep others)

object_keeps : (config : Config) (ts : List Token) (r : Reading) → ReadsObject config ts r → shapes_after (shapes config) r ≡ shapes config
object_keeps config [] r h = ap (shapes_after (shapes config)) h
object_keeps config (begin_object ∷ ts) r h = members_keep h
object_keeps config (end_object ∷ ts) r h = ap (shapes_after (shapes config)) h
object_keeps config (begin_array ∷ ts) r h = ap (shapes_after (shapes config)) h
object_keeps config (end_array ∷ ts) r h = ap (shapes_after (shapes config)) h
object_keeps config (key s ∷ ts) r h = ap (shapes_after (shapes config)) h
object_keeps config (string s ∷ ts) r h = ap (shapes_after (shapes config)) h
object_keeps config (number s ∷ ts) r h = ap (shapes_after (shapes config)) h
object_keeps config (boolean b ∷ ts) r h = ap (shapes_after (shapes config)) h
object_keeps config (null ∷ ts) r h = ap (shapes_after (shapes config)) h
object_keeps config (bad ∷ ts) r h = ap (shapes_after (shapes config)) h

alone_keeps : (before : Shapes) (r : Reading) → shapes_after before r ≡ before → shapes_after before (alone r) ≡ before
alone_keeps before (Ok (config, [])) same = same
alone_keeps before (Ok (config, t ∷ ts)) same = refl
alone_keeps before (Err e) same = same

preset_keeps : (p : Preset) (config : Config) → shapes (with_preset p config) ≡ shapes config
unfolding with_preset
preset_keeps Run config = refl
preset_keeps Version1 config = refl
preset_keeps Version2 config = refl
preset_keeps Version3 config = refl
preset_keeps Proposals config = refl
preset_keeps Wabt config = refl
preset_keeps Binaryen config = refl
preset_keeps V8 config = refl
preset_keeps SpiderMonkey config = refl
preset_keeps JavaScriptCore config = refl

changed_keeps : (p : Option Preset) (config : Config) → shapes (changed_by p config) ≡ shapes config
changed_keeps None config = refl
changed_keeps (Some p) config = preset_keeps p config

text_keeps : (text : List ℕ) (config : Config) → ReadsText text (Ok config) → shapes config ≡ shapes default_config
text_keeps text config h =
    let start = changed_by (preset_in (tokens text)) default_config in
    let same = ap (shapes_after (shapes start)) h.2 ∙ alone_keeps (shapes start) h.0 (object_keeps start (tokens text) h.0 h.1) in
    same ∙ changed_keeps (preset_in (tokens text)) default_config

-- a configuration that is read from a text has no shapes
read_has_no_shapes : (text : List ℕ) (config : Config) → ReadsText text (Ok config) → HasNoShapes config
read_has_no_shapes text config h =
    let same = text_keeps text config h in
    record {
      available_imports = ap (λ (s : Shapes). s.available_imports) same;
      exports = ap (λ (s : Shapes). s.exports) same;
      module_shape = ap (λ (s : Shapes). s.module_shape) same;
    }

configured_has_no_shapes : {text : List ℕ} {config : Config} → IsConfigured text config → HasNoShapes config
configured_has_no_shapes (IsConfigured.by_default _ is) = record {
  available_imports = ap (λ (c : Config). c.available_imports) is;
  exports = ap (λ (c : Config). c.exports) is;
  module_shape = ap (λ (c : Config). c.module_shape) is;
}
configured_has_no_shapes {text = text} {config = config} (IsConfigured.read h) = read_has_no_shapes text config h

-- what a text requests has no shapes
pub request_has_no_shapes : (text : List ℕ) (request : Request) → IsRequest text request → HasNoShapes request.config
request_has_no_shapes text request h = configured_has_no_shapes h.configured
