-- A file that is written for a changed module is a change of the file that the module was read of.
use Rattle.std.proofs.Common.{◌≡◌, ℕ, List, Option, Some, None, Result, Ok, Err, ap, sym, subst, IfOk, IfSome}
use Rattle.smith_decode.specs.Modules.{IsModuleBinary, syntax_of}
use Rattle.smith_decode.specs.declared.locations.Place.{Place}
use Rattle.smith_decode.specs.declared.modules.Module.{Module}
use Rattle.smith_judge.specs.Files.{IsModuleFile}
use Rattle.smith_wrong_module.specs.Changes.{IsChangedAt, IsDrawn}
use Rattle.smith_wrong_module.specs.declared.family.ModuleFamily.{ModuleFamily}
use Rattle.smith_wrong.specs.Changes.{IsChangeOf, family_of}
use Rattle.smith_wrong.specs.declared.changes.Change.{Change}
use Rattle.smith_wrong.specs.declared.changes.Change.TheVariants as change
use Rattle.smith_wrong.specs.declared.changes.ChangedFile.{ChangedFile}
use Rattle.smith_wrong.specs.declared.families.Family.TheVariants as family
use Rattle.smith_wrong.specs.declared.refusal.WrongRefusal.{WrongRefusal}

pub item_change : (one : ModuleFamily) (found : Option Place) (at : Place) (twin : List ℕ) (m n : Module)
    (written : Result (Option ChangedFile) WrongRefusal) → found ≡ Some at → IsModuleFile twin m → IsDrawn found m n
    → IfOk written (λ made. IfSome made (λ file. IsModuleBinary (syntax_of n) file.bytes.items))
    → IfOk written (λ made. IfSome made (λ file. file.change ≡ change.Item one at))
    → IfOk written (λ made. IfSome made (λ file. IsChangeOf file.change twin file.bytes.items))
item_change one found at twin m n (Ok (Some file)) is read drawn spelled same =
    let differs : IsChangedAt at m n = subst (λ (place : Option Place). IsDrawn place m n) is drawn in
    subst (λ (made : Change). IsChangeOf made twin file.bytes.items) (sym same)
    (record { m = m; read = read; n = n; differs = differs; spelled = spelled })
item_change one found at twin m n (Ok None) is read drawn spelled same = tt
item_change one found at twin m n (Err e) is read drawn spelled same = tt

-- its change is of the family
pub item_family : (one : ModuleFamily) (at : Place) (written : Result (Option ChangedFile) WrongRefusal)
    → IfOk written (λ made. IfSome made (λ file. file.change ≡ change.Item one at))
    → IfOk written (λ made. IfSome made (λ file. family_of file.change ≡ family.Module one))
item_family one at (Ok (Some file)) same = ap family_of same
item_family one at (Ok None) same = tt
item_family one at (Err e) same = tt
