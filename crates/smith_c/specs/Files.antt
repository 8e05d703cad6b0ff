-- The answers of calls about files: invalid files that they make, and files that they judge.
use Rattle.std.specs.Prelude.{◌≡◌, ◌≢◌, ◌⊎◌, ℕ, List, [], Ok, Err}
use Rattle.std.specs.Str.{IsUtf8}
use Rattle.std.specs.String.{string_bytes}
use Rattle.smith_bytes.specs.declared.error.Error.TheVariants.{Memory}
use Rattle.smith_config.specs.Config.{default_config}
use Rattle.smith_config.specs.Features.{features_of}
use Rattle.smith_config.specs.declared.config.Config.{Config}
use Rattle.smith_config_json.specs.Objects.{ReadsAlone}
use Rattle.smith_config_json.specs.Presets.{with_proposals}
use Rattle.smith_config_json.specs.declared.fault.Fault.TheVariants.{OutOfMemory}
use Rattle.smith_judge.specs.Answers.{IsAnswer}
use Rattle.smith_judge.specs.Files.{IsValidFile}
use Rattle.smith_judge.specs.Verdicts.{verdict_of}
use Rattle.smith_judge.specs.declared.answer.Answer.{Answer as Judgement}
use Rattle.smith_judge.specs.declared.verdict.Verdict.{Verdict}
use Rattle.smith_request.specs.Refusals.{status_of}
use Rattle.smith_request.specs.declared.refusal.Refusal.{Refusal}
use Rattle.smith_request.specs.declared.refusal.Refusal.TheVariants as refusals
use Rattle.smith_types.specs.Syntax.Features.{Features}
use Rattle.smith_wrong.specs.Changes.{family_of}
use Rattle.smith_wrong.specs.Numbers.{family_number}
use Rattle.smith_wrong.specs.declared.wrong.Wrong.{Wrong}
use Rattle.smith_c.specs.CallAnswers.{IsPut}
use Rattle.smith_c.specs.declared.answer.Answer.{Answer}
use Rattle.smith_c.specs.declared.fault.Fault.{Fault}

-- the numbers of an invalid file: its first fault, and the family of its change
abbrev pub fault_of : Wrong → Fault
fault_of wrong = record { verdict = verdict_of wrong.answer; family = family_number (family_of wrong.change) }

-- the numbers of such an invalid file were written, and the file to the buffer if it fits, with status 0;
-- or there is an error, and nothing was written
pub data IsInvalidMade (IsFile : Wrong → Type 0) (MayRefuse : Refusal → Type 0) (fault_before fault_after : Fault)
    (before after : List ℕ) (answer : Answer) : Type 0 where
  made : {wrong : Wrong} → IsFile wrong → fault_after ≡ fault_of wrong → IsPut 0 wrong.file.items before after answer →
      IsInvalidMade IsFile MayRefuse fault_before fault_after before after answer
  refused : {refusal : Refusal} → MayRefuse refusal → fault_after ≡ fault_before → after ≡ before →
      answer ≡ record { status = status_of refusal; length = 0 } →
      IsInvalidMade IsFile MayRefuse fault_before fault_after before after answer

-- a text sets the fields that it names in a configuration, or nothing if it is empty
pub data IsSet (text : List ℕ) (before after : Config) : Type 0 where
  nothing : text ≡ [] → after ≡ before → IsSet text before after
  read : ReadsAlone before text (Ok (after, [])) → IsSet text before after

-- a text sets nothing, for this reason
abbrev pub IsUnset : List ℕ → Config → Refusal → Type 0
IsUnset text before refusals.NotUtf8 = IsUtf8 text → ⊥
IsUnset text before (refusals.Config refusal) = refusal.fault ≢ OutOfMemory
    → (left : Config) × ReadsAlone before text (Err (refusal.fault, string_bytes refusal.field, left))
IsUnset text before _ = ⊥

-- the configuration that enables every known proposal
abbrev pub judging_config : Config
judging_config = with_proposals default_config

-- the features under which files are judged for a text: all known features, changed by the text
pub record IsJudgedBy (text : List ℕ) (features : Features) : Type 0 where
  pub config : Config
  pub set : IsSet text judging_config config
  pub same : features ≡ features_of config

-- a verdict is right: with kind 0 the file is a valid module under these features, with kind 1 or 2 it isn't,
-- and the verdict has the numbers of the answer of `judge`
pub record IsVerdict (features : Features) (file : List ℕ) (verdict : Verdict) : Type 0 where
  pub valid : verdict.kind ≡ 0 → IsValidFile features file
  pub invalid : (verdict.kind ≡ 1) ⊎ (verdict.kind ≡ 2) → IsValidFile features file → ⊥
  pub judgement : Judgement
  pub said : IsAnswer features file judgement
  pub numbers : verdict ≡ verdict_of judgement

-- a verdict is right under the features for a text
pub record IsVerdictBy (text file : List ℕ) (verdict : Verdict) : Type 0 where
  pub features : Features
  pub judged : IsJudgedBy text features
  pub right : IsVerdict features file verdict

-- a file is not judged: its configuration is refused, or memory ran out
abbrev pub IsUnjudged : List ℕ → Refusal → Type 0
IsUnjudged text refusal = IsUnset text judging_config refusal ⊎ (refusal ≡ refusals.Module Memory)

-- the verdict on a file was written, and words to the buffer if they fit, with status 0; or there is an error,
-- and nothing was written
pub data IsChecked (text file : List ℕ) (verdict_before verdict_after : Verdict) (before after : List ℕ) (answer : Answer) : Type 0 where
  judged : {words : List ℕ} → IsVerdictBy text file verdict_after → IsUtf8 words → IsPut 0 words before after answer →
      IsChecked text file verdict_before verdict_after before after answer
  refused : {refusal : Refusal} → IsUnjudged text refusal → verdict_after ≡ verdict_before → after ≡ before →
      answer ≡ record { status = status_of refusal; length = 0 } →
      IsChecked text file verdict_before verdict_after before after answer
