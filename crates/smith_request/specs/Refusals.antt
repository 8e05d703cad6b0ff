-- The reasons why there is no program, and their numbers.
use Rattle.std.specs.Prelude.{◌≢◌, ℕ, List, [], Err}
use Rattle.std.specs.Str.{IsUtf8}
use Rattle.std.specs.String.{string_bytes}
use Rattle.smith_binary.specs.declared.error.EncodeError.TheVariants as encoding
use Rattle.smith_bytes.specs.declared.error.Error.{Error}
use Rattle.smith_bytes.specs.declared.error.Error.TheVariants as errors
use Rattle.smith_config.specs.declared.config.Config.{Config as Configuration}
use Rattle.smith_config_json.specs.Objects.{ReadsText}
use Rattle.smith_config_json.specs.declared.fault.Fault.{Fault}
use Rattle.smith_config_json.specs.declared.fault.Fault.TheVariants.{OutOfMemory, NotAnObject, UnknownField, RepeatedField, WrongType}
use Rattle.smith_config_json.specs.declared.fault.Fault.TheVariants.{OutOfRange, TextAfter}
use Rattle.smith_config_json.specs.declared.refusal.ConfigRefusal.{ConfigRefusal}
use Rattle.smith_request.specs.Output.{IsRefusedFor}
use Rattle.smith_request.specs.Requests.{IsConfigured, additions_of}
use Rattle.smith_request.specs.declared.manner.Form.{Form}
use Rattle.smith_request.specs.declared.refusal.Refusal.{Refusal}
use Rattle.smith_request.specs.declared.refusal.Refusal.TheVariants.{NotUtf8, Config, Module, Encoding, Shape, NoChange, NoFamily}
use Rattle.smith_request.specs.declared.request.Request.{Request}

-- a UTF-8 text that is not empty is refused because of its first fault, or lack of memory
pub record IsUnparsed (text : List ℕ) (refusal : ConfigRefusal) : Type 0 where
  pub utf8 : IsUtf8 text
  pub some : text ≢ []
  pub first : refusal.fault ≢ OutOfMemory → ReadsText text (Err (refusal.fault, string_bytes refusal.field))

-- the text is refused
abbrev pub IsUnread : List ℕ → Refusal → Type 0
IsUnread text NotUtf8 = IsUtf8 text → ⊥
IsUnread text (Config refusal) = IsUnparsed text refusal
IsUnread text (Module e) = ⊥
IsUnread text (Encoding e) = ⊥
IsUnread text (Shape _ _) = ⊥
IsUnread text NoChange = ⊥
IsUnread text NoFamily = ⊥

-- an error for a configuration's text and an input
pub data IsRefusal (form : Form) (text input : List ℕ) (refusal : Refusal) : Type 0 where
  not_read : IsUnread text refusal → IsRefusal form text input refusal
  not_made : {config : Configuration} {left : List ℕ} → IsConfigured text config →
      IsRefusedFor form config (additions_of text) input left refusal →
      IsRefusal form text input refusal

-- an error for a request and an input
pub record IsRefusalFor (form : Form) (request : Request) (input : List ℕ) (refusal : Refusal) : Type 0 where
  pub left : List ℕ
  pub unmade : IsRefusedFor form request.config request.additions input left refusal

-- the number of a fault of a configuration's text
abbrev pub fault_status : Fault → ℕ
fault_status OutOfMemory = 2
fault_status NotAnObject = 3
fault_status UnknownField = 3
fault_status RepeatedField = 3
fault_status WrongType = 3
fault_status OutOfRange = 3
fault_status TextAfter = 3

-- the number of an error of the generator
abbrev pub error_status : Error → ℕ
error_status errors.Memory = 2
error_status (errors.Config _) = 4
error_status (errors.IncorrectFormat _) = 5
error_status errors.EmptyChoose = 6
error_status errors.NotEnoughData = 6
error_status (errors.Shape _ _) = 6

-- the number of an error
abbrev pub status_of : Refusal → ℕ
status_of NotUtf8 = 3
status_of (Config refusal) = fault_status refusal.fault
status_of (Module e) = error_status e
status_of (Encoding encoding.Memory) = 2
status_of (Encoding encoding.TooLong) = 7
status_of (Shape _ _) = 8
status_of NoChange = 9
status_of NoFamily = 10
