-- What the steps of the check say of a module.
use Rattle.smith_check.proofs.Common.{[], AreSectionsValid, arith, Features, IsTypeSectionValid, subst, syntax_of, take, ℕ, ◌+◌, ◌<◌, ◌≡◌}
use Rattle.smith_check.proofs.Common.{◌≤◌}
use Rattle.smith_decode.specs.declared.modules.Module.{Module}
use Rattle.smith_check_types.specs.CheckedTypes.{AreChecked}
use Rattle.smith_check_types.specs.declared.check.CheckedTypes.{CheckedTypes}
use Rattle.smith_check_module.specs.SectionFaults.{IsFirstFault}
use Rattle.smith_check_module.specs.declared.faults.SectionFault.{SectionFault}
use Rattle.smith_check.specs.Faults.{AreTypesRight, IsJudgement}
use Rattle.smith_check.specs.Supertypes.{HaveOneSupertype, IsFirstSeveral}
use Rattle.smith_check.specs.declared.judgement.Fault.TheVariants as fault
use Rattle.smith_check.specs.declared.judgement.Judgement.TheVariants as judgement
use Rattle.smith_check.proofs.FunctionLemmas.{sections_wrong, types_wrong}
use Rattle.smith_check.proofs.SupertypeLemmas.{first_single, fewer_single}

pub types_judgement : (features : Features) (m : Module) (group : ℕ) → HaveOneSupertype m.further_supertypes
    → (IsTypeSectionValid features m.types → ⊥) → IsTypeSectionValid features (take group m.types)
    → (IsTypeSectionValid features (take (group + 1) m.types) → ⊥) → IsJudgement features m (judgement.Invalid (fault.Types group))
types_judgement features m group supertypes wrong before first = (
  types_wrong features [] (syntax_of m) wrong,
  record {
    before = record { supertypes = first_single m.further_supertypes group supertypes; valid = before };
    wrong = λ right. first right.valid;
  },
)

-- a group has a type of several supertypes, and no group before it has
pub several_judgement : (features : Features) (m : Module) (several group : ℕ) → IsFirstSeveral m.further_supertypes several
    → IsTypeSectionValid features (take group m.types)
    → (group < several → IsTypeSectionValid features (take (group + 1) m.types) → ⊥) → group ≤ several
    → IsJudgement features m (judgement.Invalid (fault.Types group))
several_judgement features m several group first before wrong within = (
  λ program. first.several (first_single m.further_supertypes (several + 1) program.supertypes),
  record {
    before = record { supertypes = fewer_single m.further_supertypes group several within first.before; valid = before };
    wrong = λ right.
        let other : group ≡ several → ⊥ = λ same.
        first.several (subst (λ (n : ℕ). HaveOneSupertype (take (n + 1) m.further_supertypes)) same right.supertypes) in
        wrong (omega (arith, other, within)) right.valid;
  },
)

pub section_judgement : (features : Features) (m : Module) (types : CheckedTypes) (item : SectionFault)
    → HaveOneSupertype m.further_supertypes → AreChecked features m.types types
    → (AreSectionsValid features types.indices (syntax_of m) → ⊥) → IsFirstFault features types.indices (syntax_of m) item
    → IsJudgement features m (judgement.Invalid (fault.Section item))
section_judgement features m types item supertypes checked wrong first =
    let right : AreTypesRight features types.indices (syntax_of m) =
    record { supertypes = supertypes; canonical = checked.canonical; valid = checked.valid } in
    (sections_wrong features types.indices (syntax_of m) right wrong, (types.indices, right, first))
