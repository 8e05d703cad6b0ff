-- Answers to whether a file is valid.
use Rattle.std.specs.Prelude.{◌≡◌, ℕ, List, Err}
use Rattle.smith_types.specs.Syntax.Features.{Features}
use Rattle.smith_decode.specs.Forms.{AreFormsEnabled}
use Rattle.smith_decode.specs.ModuleReadings.{module_at}
use Rattle.smith_decode.specs.Modules.{Syntax, IsModuleBinary, syntax_of}
use Rattle.smith_decode.specs.Results.{Locates, offset_in}
use Rattle.smith_decode.specs.declared.error.DecodeError.TheVariants as error
use Rattle.smith_decode.specs.declared.locations.Place.{Place}
use Rattle.smith_decode.specs.declared.modules.Module.{Module}
use Rattle.smith_check.specs.Faults.{IsFirstFault, IsUnjudged}
use Rattle.smith_check.specs.ValidPrograms.{IsValidProgram}
use Rattle.smith_judge.specs.Files.{IsModuleFile, IsValidFile}
use Rattle.smith_judge.specs.Places.{IsFaultPlace, fault_index, gap_index, gap_place}
use Rattle.smith_judge.specs.Rules.{fault_rule}
use Rattle.smith_judge.specs.declared.answer.Answer.{Answer}
use Rattle.smith_judge.specs.declared.answer.Answer.TheVariants as answer
use Rattle.smith_judge.specs.declared.answer.Gap.{Gap}
use Rattle.smith_judge.specs.declared.finding.Finding.{Finding}

-- an answer decides whether a file is valid, by the proposition `IsValid`, unless the file is not
-- judged
abbrev pub Decides : Answer → Type 0 → Type 0
Decides answer.Valid IsValid = IsValid
Decides (answer.Invalid finding) IsValid = IsValid → ⊥
Decides (answer.Malformed offset reason) IsValid = IsValid → ⊥
Decides (answer.FeatureOff offset) IsValid = IsValid → ⊥
Decides (answer.NotJudged gap) IsValid = Unit {0}

-- a finding has the rule that its fault breaks, the index of the faulty item, and its offset in the
-- file
pub record IsDescribed (bytes : List ℕ) (m : Module) (finding : Finding) : Type 0 where
  pub rule : finding.rule ≡ fault_rule m finding.fault
  pub index : finding.index ≡ fault_index m.imports finding.fault
  pub at : Place
  pub placed : IsFaultPlace m.imports finding.fault at
  pub offset : finding.offset ≡ offset_in bytes at

-- the bytes are a module in these features that is not valid, and the finding has its first fault
-- (Validation, Modules)
pub record IsInvalidFile (features : Features) (bytes : List ℕ) (finding : Finding) : Type 0 where
  pub m : Module
  pub file : IsModuleFile bytes m
  pub enabled : AreFormsEnabled features m
  pub invalid : IsValidProgram features (syntax_of m) → ⊥
  pub first : IsFirstFault features m finding.fault
  pub described : IsDescribed bytes m finding

-- the bytes are a module in these features, and it has this gap, because of which it is not judged
-- (own rule)
pub record IsUnjudgedFile (features : Features) (bytes : List ℕ) (gap : Gap) : Type 0 where
  pub m : Module
  pub file : IsModuleFile bytes m
  pub enabled : AreFormsEnabled features m
  pub unjudged : IsUnjudged features (syntax_of m) gap.why
  pub index : gap.index ≡ gap_index m.imports gap.why
  pub offset : gap.offset ≡ offset_in bytes (gap_place gap.why)

-- the bytes are not a module, and `located` holds of the first fault of their format (Binary
-- Format, Modules)
pub record IsMalformedFile (bytes : List ℕ) (located : Type 0) : Type 0 where
  pub none : (m : Syntax) → IsModuleBinary m bytes → ⊥
  pub first : located

-- an answer is correct for the bytes and the features (Validation, Modules; Binary Format, Modules)
abbrev pub IsAnswer : Features → List ℕ → Answer → Type 0
IsAnswer features bytes answer.Valid = IsValidFile features bytes
IsAnswer features bytes (answer.Invalid finding) = IsInvalidFile features bytes finding
IsAnswer features bytes (answer.Malformed offset reason) =
    IsMalformedFile bytes (Locates features (Err (error.Malformed offset reason)) bytes (module_at bytes))
IsAnswer features bytes (answer.FeatureOff offset) = Locates features (Err (error.FeatureOff offset)) bytes (module_at bytes)
IsAnswer features bytes (answer.NotJudged gap) = IsUnjudgedFile features bytes gap
