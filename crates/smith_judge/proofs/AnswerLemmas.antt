-- An answer that is right decides whether a file is valid.
use Rattle.std.proofs.Common.{◌≡◌, ◌∙◌, ℕ, List, Result, Ok, Err, sym, subst, IfOk}
use Rattle.smith_binary_read.specs.declared.error.Reason.{Reason}
use Rattle.smith_bytes.specs.declared.error.Error.{Error}
use Rattle.smith_types.specs.Syntax.Features.{Features}
use Rattle.smith_decode.specs.Forms.{AreFormsEnabled}
use Rattle.smith_decode.specs.ModuleReadings.{module_at}
use Rattle.smith_decode.specs.Modules.{IsModuleBinary, Syntax, syntax_of}
use Rattle.smith_decode.specs.Results.{Locates, Returns}
use Rattle.smith_decode.specs.declared.error.DecodeError.{DecodeError}
use Rattle.smith_decode.specs.declared.error.DecodeError.TheVariants as error
use Rattle.smith_decode.specs.declared.modules.Module.{Module}
use Rattle.smith_decode.proofs.FormLemmas.{off_disabled}
use Rattle.smith_check.specs.ValidPrograms.{IsValidProgram}
use Rattle.smith_judge.specs.Answers.{Decides, IsAnswer}
use Rattle.smith_judge.specs.Files.{IsValidFile}
use Rattle.smith_judge.specs.declared.answer.Answer.{Answer}
use Rattle.smith_judge.specs.declared.answer.Answer.TheVariants as answer

-- bytes are read as one module at most
one_module : (bytes : List ℕ) (m n : Module) → module_at bytes ≡ Ok m → module_at bytes ≡ Ok n → m ≡ n
one_module bytes m n is_m is_n = let same = sym is_m ∙ is_n in cc

decides : (features : Features) (bytes : List ℕ) (said : Answer) → IsAnswer features bytes said → Decides said (IsValidFile features bytes)
decides features bytes answer.Valid right = right
decides features bytes (answer.Invalid finding) right = λ file.
    let same = one_module bytes file.m right.m file.file.read right.file.read in
    right.invalid (subst (λ (m : Module). IsValidProgram features (syntax_of m)) same file.valid)
decides features bytes (answer.Malformed offset reason) right = λ file. right.none (syntax_of file.m) file.file.spelled
decides features bytes (answer.FeatureOff offset) (m, read, place, off, at) = λ file.
    off_disabled features m place off (subst (AreFormsEnabled features) (one_module bytes file.m m file.file.read read) file.enabled)
decides features bytes (answer.NotJudged gap) right = tt

pub decides_all : (features : Features) (bytes : List ℕ) (made : Result Answer Error) → IfOk made (IsAnswer features bytes)
    → IfOk made (λ said. Decides said (IsValidFile features bytes))
decides_all features bytes (Ok said) right = decides features bytes said right
decides_all features bytes (Err e) right = tt

-- the decoder's error for bytes that are no module
pub malformed : (features : Features) (bytes : List ℕ) (e : DecodeError) (offset : ℕ) (reason : Reason) → e ≡ error.Malformed offset reason
    → ((m : Syntax) → IsModuleBinary m bytes → Returns features m (Err e)) → Locates features (Err e) bytes (module_at bytes)
    → IsAnswer features bytes (answer.Malformed offset reason)
malformed features bytes e offset reason is complete exact =
    let Both : DecodeError → Type 0 = λ x. ((m : Syntax) → IsModuleBinary m bytes → Returns features m (Err x))
    × Locates features (Err x) bytes (module_at bytes) in
    let both = subst Both is (complete, exact) in
    record { none = both.0; first = both.1 }
