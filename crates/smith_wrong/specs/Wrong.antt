-- Invalid files, and their valid twins: the sections Binary Format, Modules, and Validation, Modules, of the
-- WebAssembly Core Specification 3.0.
use Rattle.std.specs.Prelude.{ℕ, List, Ok, Err}
use Rattle.std.specs.List.{Contains}
use Rattle.smith_binary.specs.Faults.{IsFault}
use Rattle.smith_binary.specs.declared.error.EncodeError.{EncodeError}
use Rattle.smith_config.specs.Features.{features_of}
use Rattle.smith_config.specs.declared.config.Config.{Config}
use Rattle.smith_program.specs.Generated.{IsProgram}
use Rattle.smith_program.specs.Parts.{ProgramParts}
use Rattle.smith_binary_program.specs.Long.{IsLongProgram}
use Rattle.smith_binary_program.specs.Programs.{IsEncoded}
use Rattle.smith_binary_program.specs.Valid.{IsValidBinary}
use Rattle.smith_types.specs.Syntax.Features.{Features}
use Rattle.smith_judge.specs.Answers.{IsAnswer}
use Rattle.smith_judge.specs.Files.{IsValidFile}
use Rattle.smith_judge.specs.declared.answer.Answer.{Answer}
use Rattle.smith_judge.specs.declared.answer.Answer.TheVariants as answer
use Rattle.smith_wrong_bytes.specs.Splices.{HasPreamble}
use Rattle.smith_wrong_bytes.specs.declared.family.BytesFamily.{BytesFamily}
use Rattle.smith_wrong.specs.Changes.{IsChangeOf}
use Rattle.smith_wrong.specs.declared.families.Family.{Family}
use Rattle.smith_wrong.specs.declared.families.Family.TheVariants as family
use Rattle.smith_wrong.specs.declared.refusal.WrongRefusal.{WrongRefusal}
use Rattle.smith_wrong.specs.declared.refusal.WrongRefusal.TheVariants as refusal
use Rattle.smith_wrong.specs.declared.wrong.Wrong.{Wrong}

-- the twin is the file of the program that the generator draws for the configuration and the input,
-- and `left` are the unread bytes of the input
pub record IsTwin (config : Config) (input left twin : List ℕ) : Type 0 where
  pub program : ProgramParts
  pub drawn : IsProgram config input (Ok program) left
  pub encoded : IsEncoded program.«module» program.bodies twin

-- an answer names the first rule that a file breaks: a rule of the format, or of validity
abbrev pub NamesRule : Answer → Type 0
NamesRule (answer.Invalid finding) = Unit {0}
NamesRule (answer.Malformed offset reason) = Unit {0}
NamesRule _ = ⊥

-- the file is no valid module under these features, and the answer gives the first rule that it
-- breaks, and where
pub record IsBroken (features : Features) (file : List ℕ) (said : Answer) : Type 0 where
  pub invalid : IsValidFile features file → ⊥
  pub answer : IsAnswer features file said
  pub rule : NamesRule said

-- an invalid file for a configuration and an input, of which `left` are the unread bytes: its twin is
-- valid, it has one change, and it breaks a rule
pub record IsWrong (config : Config) (input left : List ℕ) (wrong : Wrong) : Type 0 where
  pub twin : IsTwin config input left wrong.twin.items
  pub valid : IsValidBinary wrong.twin.items
  pub change : IsChangeOf wrong.change wrong.twin.items wrong.file.items
  pub broken : IsBroken (features_of config) wrong.file.items wrong.answer

-- the program is drawn, but not encoded, for this reason
pub record IsUnwritten (config : Config) (input left : List ℕ) (e : EncodeError) : Type 0 where
  pub program : ProgramParts
  pub drawn : IsProgram config input (Ok program) left
  pub fault : IsFault (IsLongProgram program.«module» program.bodies) e

-- an error is the generator's, the encoder's, or lack of memory after the twin is written
abbrev pub IsRefused : Config → List ℕ → List ℕ → WrongRefusal → Type 0
IsRefused config input left (refusal.Module e) = IsProgram config input (Err e) left
IsRefused config input left (refusal.Encoding e) = IsUnwritten config input left e
IsRefused config input left refusal.Memory = Unit {0}
IsRefused config input left refusal.NoChange = (twin : List ℕ) × IsTwin config input left twin

-- none of the families changes the first eight bytes, which every module has
abbrev pub AreWithoutPreamble : List Family → Type 0
AreWithoutPreamble families = (one : BytesFamily) → Contains families (family.Bytes one) → HasPreamble one → ⊥
