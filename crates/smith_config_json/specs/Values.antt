-- The values of tokens, by the type of the field. Rules of this project.
use Rattle.std.specs.Prelude.{◌≡◌, ℕ, ◌-◌, ◌^◌, nat_lt, List, [], ◌∷◌, drop, Bool, false, true, ◌==◌, ◌&&◌, if◌then◌else◌, Option, Some}
use Rattle.std.specs.Prelude.{None, option_map, Result, Ok, Err, length}
use Rattle.std.specs.List.{list_all}
use Rattle.std.specs.Char.{is_ascii_digit}
use Rattle.std.specs.Str.Parse.{digits_value}
use Rattle.json.specs.Token.{Token, begin_object, end_object, begin_array, end_array, key, string, number, boolean, null, bad}
use Rattle.smith_types.specs.Syntax.Instructions.{kinds_bits, no_kind, with_kind, IsReadKind, AreReadKinds}
use Rattle.smith_types.specs.Syntax.instruction_kind.InstructionKind.{InstructionKind}
use Rattle.smith_types.specs.Syntax.instruction_kind.InstructionKinds.{InstructionKinds}
use Rattle.smith_types.specs.Syntax.instruction_kind.UnknownKind.{UnknownKind}
use Rattle.smith_config.specs.declared.offset_choices.MemoryOffsetChoices.{MemoryOffsetChoices}
use Rattle.smith_config_json.specs.declared.fault.Fault.{Fault}
use Rattle.smith_config_json.specs.declared.fault.Fault.TheVariants.{NotAnObject, WrongType, OutOfRange}
use Rattle.smith_config_json.specs.declared.preset.Preset.{Preset}
use Rattle.smith_config_json.specs.Presets.{preset_named}

abbrev pub map_ok : {A B E : Type 0} → (A → B) → Result A E → Result B E
map_ok f (Ok x) = Ok (f x)
map_ok f (Err e) = Err e

abbrev pub and_then : {A B E : Type 0} → Result A E → (A → Result B E) → Result B E
and_then (Ok x) f = f x
and_then (Err e) f = Err e

-- the first token, or a bad token at the end
abbrev pub first : List Token → Token
first [] = bad
first (t ∷ ts) = t

-- the fault of a token that is not a value of the field's type
abbrev pub unwanted : Token → Fault
unwanted begin_object = WrongType
unwanted end_object = NotAnObject
unwanted begin_array = WrongType
unwanted end_array = NotAnObject
unwanted (key s) = NotAnObject
unwanted (string s) = WrongType
unwanted (number s) = WrongType
unwanted (boolean b) = WrongType
unwanted null = WrongType
unwanted bad = NotAnObject

-- whether a text is not empty and has only digits
abbrev pub are_digits : List ℕ → Bool
are_digits text = if length text == 0 then false else list_all is_ascii_digit text

-- the number that digits denote, if it is at most `most`
abbrev pub number_of : ℕ → List ℕ → Result ℕ Fault
number_of most text = if are_digits text then (if nat_lt most (digits_value 10 text) then Err OutOfRange else Ok (digits_value 10 text))
    else Err WrongType

-- a whole number up to `most`, or none for null
abbrev pub whole_value : ℕ → Token → Result (Option ℕ) Fault
whole_value most null = Ok None
whole_value most (number text) = map_ok Some (number_of most text)
whole_value most t = Err (unwanted t)

-- true or false, or none for null
abbrev pub truth_value : Token → Result (Option Bool) Fault
truth_value null = Ok None
truth_value (boolean b) = Ok (Some b)
truth_value t = Err (unwanted t)

-- the value of a path, which must be null
abbrev pub file_value : Token → Result (Unit {0}) Fault
file_value null = Ok tt
file_value t = Err (unwanted t)

-- the preset exists, or it is out of range
abbrev pub of_preset : Option Preset → Result (Unit {0}) Fault
of_preset None = Err OutOfRange
of_preset (Some preset) = Ok tt

-- the name of a preset, or null
abbrev pub preset_value : Token → Result (Unit {0}) Fault
preset_value null = Ok tt
preset_value (string name) = of_preset (preset_named name)
preset_value t = Err (unwanted t)

-- the kinds that a text names, or a fault if it names none
abbrev pub of_names : {A : Type 0} → Result A UnknownKind → Result (Option A) Fault
of_names (Ok all) = Ok (Some all)
of_names (Err e) = Err OutOfRange

-- the next kind of a list of names, or none at its end
abbrev pub IsListed : Token → Result (Option InstructionKind) Fault → Type 0
IsListed end_array v = v ≡ Ok None
IsListed (string text) v = (r : Result InstructionKind UnknownKind) × IsReadKind text r × (v ≡ of_names r)
IsListed t v = v ≡ Err (unwanted t)

-- the set with the kinds named in the rest of a list, and the tokens after the list
pub data AreListed : InstructionKinds → List Token → Result InstructionKinds Fault → List Token → Type 0 where
  ends : {all : InstructionKinds} {ts : List Token} → IsListed (first ts) (Ok None) → AreListed all ts (Ok all) (drop 1 ts)
  refuses : {all : InstructionKinds} {ts : List Token} {fault : Fault} → IsListed (first ts) (Err fault)
      → AreListed all ts (Err fault) (drop 1 ts)
  names : {all : InstructionKinds} {ts rest : List Token} {v : Result InstructionKinds Fault} (kind : InstructionKind) →
      IsListed (first ts) (Ok (Some kind)) → AreListed (with_kind all true kind) (drop 1 ts) v rest → AreListed all ts v rest

-- a set of instruction kinds, and the tokens after it: twelve bits as a number, the names of kinds
-- in a text or in a list, or none for null
abbrev pub AreKinds : Token → List Token → Result (Option InstructionKinds) Fault → List Token → Type 0
AreKinds null ts v rest = (v ≡ Ok None) × (rest ≡ ts)
AreKinds (number text) ts v rest = (map_ok (option_map kinds_bits) v ≡ map_ok Some (number_of (2 ^ 12 - 1) text)) × (rest ≡ ts)
AreKinds (string text) ts v rest = ((r : Result InstructionKinds UnknownKind) × AreReadKinds text r × (v ≡ of_names r)) × (rest ≡ ts)
AreKinds begin_array ts v rest = (r : Result InstructionKinds Fault) × AreListed no_kind ts r rest × (v ≡ map_ok Some r)
AreKinds t ts v rest = (v ≡ Err (unwanted t)) × (rest ≡ ts)

-- a weight; the end of the list is a fault
abbrev pub weight : Token → Result ℕ Fault
weight (number text) = number_of (2 ^ 32 - 1) text
weight end_array = Err WrongType
weight t = Err (unwanted t)

-- the end of the list; another value is a fault
abbrev pub list_end : Token → Result (Unit {0}) Fault
list_end end_array = Ok tt
list_end t = Err (unwanted t)

-- three weights, at least one of them above zero
abbrev pub some_weight : ℕ → ℕ → ℕ → Result MemoryOffsetChoices Fault
some_weight inside between past =
    if inside == 0 && between == 0 && past == 0 then Err OutOfRange else Ok (record { 0 = inside; 1 = between; 2 = past })

-- three weights and the end of their list
abbrev pub weights : List Token → Result MemoryOffsetChoices Fault
weights ts =
    and_then (weight (first ts)) (λ inside.
    and_then (weight (first (drop 1 ts))) (λ between.
    and_then (weight (first (drop 2 ts))) (λ past.
    and_then (list_end (first (drop 3 ts))) (λ _.
    some_weight inside between past))))
