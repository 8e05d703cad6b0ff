-- Invalid files for a request and an input, by the numbers of families; no number requests all families.
use Rattle.std.specs.Prelude.{◌≡◌, ◌⊎◌, ℕ, List, [], None}
use Rattle.std.specs.List.{Contains}
use Rattle.smith_bytes.specs.declared.error.Error.TheVariants.{Memory}
use Rattle.smith_config.specs.declared.config.Config.{Config as Configuration}
use Rattle.smith_wrong.specs.Changes.{family_of}
use Rattle.smith_wrong.specs.Numbers.{family_number, family_numbered}
use Rattle.smith_wrong.specs.Wrong.{IsRefused, IsWrong}
use Rattle.smith_wrong.specs.declared.families.Family.{Family}
use Rattle.smith_wrong.specs.declared.refusal.WrongRefusal.{WrongRefusal}
use Rattle.smith_wrong.specs.declared.refusal.WrongRefusal.TheVariants as why
use Rattle.smith_wrong.specs.declared.wrong.Wrong.{Wrong}
use Rattle.smith_request.specs.Refusals.{IsUnread}
use Rattle.smith_request.specs.Requests.{IsConfigured}
use Rattle.smith_request.specs.Shaped.{IsShaped, IsUnshaped}
use Rattle.smith_request.specs.declared.refusal.Refusal.{Refusal}
use Rattle.smith_request.specs.declared.refusal.Refusal.TheVariants.{Module, Encoding, NoChange, NoFamily}
use Rattle.smith_request.specs.declared.request.Request.{Request}
use Rattle.smith_request.specs.declared.shaped.ShapeFiles.{ShapeFiles}

-- a family has one of these numbers, or there are no numbers
abbrev pub IsAmong : List ℕ → Family → Type 0
IsAmong numbers one = (numbers ≡ []) ⊎ Contains numbers (family_number one)

-- an invalid file for a configuration and an input, by one change of a valid file, of one of these families
pub record IsInvalidOf (config : Configuration) (numbers input : List ℕ) (wrong : Wrong) : Type 0 where
  pub left : List ℕ
  pub drawn : IsWrong config input left wrong
  pub among : IsAmong numbers (family_of wrong.change)

-- a number is not the number of a family
pub record HasNoFamily (numbers : List ℕ) : Type 0 where
  pub number : ℕ
  pub given : Contains numbers number
  pub none : family_numbered number ≡ None

-- the reason why there is no invalid file
abbrev pub refusal_of : WrongRefusal → Refusal
refusal_of (why.Module e) = Module e
refusal_of (why.Encoding e) = Encoding e
refusal_of why.Memory = Module Memory
refusal_of why.NoChange = NoChange

-- an error for numbers: one is not the number of a family, or memory for the list of families is lacking
pub data IsUnlisted (numbers : List ℕ) (refusal : Refusal) : Type 0 where
  no_family : HasNoFamily numbers → refusal ≡ NoFamily → IsUnlisted numbers refusal
  no_memory : refusal ≡ Module Memory → IsUnlisted numbers refusal

-- an error for a configuration, families and an input: of the numbers, or because no invalid file was drawn
pub data IsUnbroken (config : Configuration) (numbers input : List ℕ) (refusal : Refusal) : Type 0 where
  not_listed : IsUnlisted numbers refusal → IsUnbroken config numbers input refusal
  not_drawn : (left : List ℕ) (reason : WrongRefusal) → IsRefused config input left reason → refusal ≡ refusal_of reason →
      IsUnbroken config numbers input refusal

-- an invalid file for the text of a configuration
pub record IsInvalid (text numbers input : List ℕ) (wrong : Wrong) : Type 0 where
  pub config : Configuration
  pub configured : IsConfigured text config
  pub invalid : IsInvalidOf config numbers input wrong

-- an error for the text of a configuration, families and an input
pub data IsInvalidRefusal (text numbers input : List ℕ) (refusal : Refusal) : Type 0 where
  not_read : IsUnread text refusal → IsInvalidRefusal text numbers input refusal
  not_made : (config : Configuration) → IsConfigured text config → IsUnbroken config numbers input refusal →
      IsInvalidRefusal text numbers input refusal

-- an invalid file for a request with the shapes in some bytes
pub record IsShapedInvalid (files : ShapeFiles) (request : Request) (numbers input : List ℕ) (wrong : Wrong) : Type 0 where
  pub shaped : Request
  pub is_shaped : IsShaped files request shaped
  pub invalid : IsInvalidOf shaped.config numbers input wrong

-- an error for a request, shapes, families and an input
pub data IsShapedInvalidRefusal (files : ShapeFiles) (request : Request) (numbers input : List ℕ) (refusal : Refusal) : Type 0 where
  unshaped : IsUnshaped files refusal → IsShapedInvalidRefusal files request numbers input refusal
  unmade : (shaped : Request) → IsShaped files request shaped → IsUnbroken shaped.config numbers input refusal →
      IsShapedInvalidRefusal files request numbers input refusal
