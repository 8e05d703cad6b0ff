-- What is said of a module is said of its file.
use Rattle.std.proofs.Common.{ℕ, List, Option, Some, None, Result, Ok, Err}
use Rattle.std.specs.Prelude.{IfOk, MatchOption}
use Rattle.smith_bytes.specs.declared.error.Error.{Error}
use Rattle.smith_types.specs.Syntax.Features.{Features}
use Rattle.smith_decode.specs.Forms.{AreFormsEnabled}
use Rattle.smith_decode.specs.Modules.{IsModuleBinary, syntax_of}
use Rattle.smith_decode.specs.declared.modules.Module.{Module}
use Rattle.smith_check.specs.Explanations.{IsExplained}
use Rattle.smith_explain.specs.declared.explanation.Explanation.{Explanation}
use Rattle.smith_judge.specs.Explanations.{IsExplainedFile}

pub explained_file : (features : Features) (bytes : List ℕ) (m : Module) (place at : ℕ) (found : Result (Option Explanation) Error)
    → IsModuleBinary (syntax_of m) bytes → AreFormsEnabled features m
    → IfOk found (λ said. MatchOption said (Unit {0}) (IsExplained features (syntax_of m) place at))
    → IfOk found (λ said. MatchOption said (Unit {0}) (IsExplainedFile features bytes place at))
explained_file features bytes m place at (Ok (Some one)) spelled enabled said =
    record { m = m; spelled = spelled; enabled = enabled; explained = said }
explained_file features bytes m place at (Ok None) spelled enabled said = tt
explained_file features bytes m place at (Err e) spelled enabled said = tt
