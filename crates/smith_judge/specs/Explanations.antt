-- Why an instruction of a file is refused. Rules of this project.
use Rattle.std.specs.Prelude.{ℕ, List}
use Rattle.smith_types.specs.Syntax.Features.{Features}
use Rattle.smith_decode.specs.Forms.{AreFormsEnabled}
use Rattle.smith_decode.specs.Modules.{IsModuleBinary, syntax_of}
use Rattle.smith_decode.specs.declared.modules.Module.{Module}
use Rattle.smith_check.specs.Explanations.{IsExplained}
use Rattle.smith_check.specs.declared.judgement.Fault.{Fault}
use Rattle.smith_check.specs.declared.judgement.Fault.TheVariants as fault
use Rattle.smith_explain.specs.declared.explanation.Explanation.{Explanation}
use Rattle.smith_judge.specs.declared.answer.Answer.{Answer}
use Rattle.smith_judge.specs.declared.answer.Answer.TheVariants as answer

-- an explanation of the instruction at an index of the body at a place, in the module that the bytes
-- spell (Validation, Functions)
pub record IsExplainedFile (features : Features) (bytes : List ℕ) (place at : ℕ) (explanation : Explanation) : Type 0 where
  pub m : Module
  pub spelled : IsModuleBinary (syntax_of m) bytes
  pub enabled : AreFormsEnabled features m
  pub explained : IsExplained features (syntax_of m) place at explanation

-- an explanation of the instruction that a fault names, and that an answer names
abbrev pub IsExplainedFault : Features → List ℕ → Fault → Explanation → Type 0
IsExplainedFault features bytes (fault.Body body instruction) explanation = IsExplainedFile features bytes body instruction explanation
IsExplainedFault features bytes _ explanation = ⊥

abbrev pub IsExplainedAnswer : Features → List ℕ → Answer → Explanation → Type 0
IsExplainedAnswer features bytes (answer.Invalid finding) explanation = IsExplainedFault features bytes finding.fault explanation
IsExplainedAnswer features bytes _ explanation = ⊥
