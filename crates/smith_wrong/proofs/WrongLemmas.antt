-- What is known of a broken file makes it an invalid one with all that is said of it.
use Rattle.std.proofs.Common.{◌≡◌, ◌⊎◌, inl, inr, ℕ, List, Option, Some, None, Result, Ok, Err, IfOk, IfSome, sym, subst}
use Rattle.std.specs.List.{Contains}
use Rattle.smith_config.specs.Features.{features_of}
use Rattle.smith_config.specs.declared.config.Config.{Config}
use Rattle.smith_types.specs.Syntax.Features.{Features}
use Rattle.smith_binary_program.specs.Valid.{IsValidBinary}
use Rattle.smith_binary_program.proofs.ValidLemmas.{encoded_valid}
use Rattle.smith_judge.specs.declared.answer.Answer.{Answer}
use Rattle.smith_wrong.specs.Changes.{IsChangeOf, family_of}
use Rattle.smith_wrong.specs.Wrong.{IsBroken, IsRefused, IsTwin, IsWrong}
use Rattle.smith_wrong.specs.declared.changes.ChangedFile.{ChangedFile}
use Rattle.smith_wrong.specs.declared.families.Family.{Family}
use Rattle.smith_wrong.specs.declared.refusal.WrongRefusal.{WrongRefusal}
use Rattle.smith_wrong.specs.declared.refusal.WrongRefusal.TheVariants as refusal
use Rattle.smith_wrong.specs.declared.wrong.Wrong.{Wrong}

pub twin_valid : (config : Config) (input left twin : List ℕ) → IsTwin config input left twin → IsValidBinary twin
twin_valid config input left twin h = encoded_valid h.program.«module» h.program.bodies twin h.encoded h.drawn.valid

pub made : (config : Config) (input left twin : List ℕ) (features : Features) (answer : Result Wrong WrongRefusal)
    → features ≡ features_of config → IsTwin config input left twin → IfOk answer (λ wrong. wrong.twin.items ≡ twin)
    → IfOk answer (λ wrong. IsChangeOf wrong.change twin wrong.file.items)
    → IfOk answer (λ wrong. IsBroken features wrong.file.items wrong.answer) → IfOk answer (IsWrong config input left)
made config input left twin features (Ok wrong) on origin same change broken = record {
  twin = subst (IsTwin config input left) (sym same) origin;
  valid = subst IsValidBinary (sym same) (twin_valid config input left twin origin);
  change = subst (λ (bytes : List ℕ). IsChangeOf wrong.change bytes wrong.file.items) (sym same) change;
  broken = subst (λ (given : Features). IsBroken given wrong.file.items wrong.answer) on broken;
}
made config input left twin features (Err e) on origin same change broken = tt

-- a refusal after the twin is written
pub refused : (config : Config) (input left twin : List ℕ) (e : WrongRefusal) → IsTwin config input left twin
    → (e ≡ refusal.Memory) ⊎ (e ≡ refusal.NoChange) → IsRefused config input left e
refused config input left twin e origin (inl is) = subst (IsRefused config input left) (sym is) tt
refused config input left twin e origin (inr is) = subst (IsRefused config input left) (sym is) (twin, origin)

-- a file that was judged has the family of the file that was drawn
pub judged_family : (families : List Family) (answer : Result (Option (ChangedFile × Answer)) WrongRefusal) (file : ChangedFile)
    → Contains families (family_of file.change) → IfOk answer (λ found. IfSome found (λ one. one.0 ≡ file))
    → IfOk answer (λ found. IfSome found (λ one. Contains families (family_of one.0.change)))
judged_family families (Ok (Some one)) file there same =
    subst (λ (it : ChangedFile). Contains families (family_of it.change)) (sym same) there
judged_family families (Ok None) file there same = tt
judged_family families (Err e) file there same = tt
