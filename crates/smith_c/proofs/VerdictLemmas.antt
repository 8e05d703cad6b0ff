-- The verdict of a judgement that decides whether a file is valid is right.
use Rattle.std.proofs.Common.{◌≡◌, ◌⊎◌, inl, inr, ℕ, List, refl, sym, ap, ◌∙◌, arith}
use Rattle.smith_judge.specs.Answers.{Decides, IsAnswer}
use Rattle.smith_judge.specs.Files.{IsValidFile}
use Rattle.smith_judge.specs.Verdicts.{answer_number, verdict_of}
use Rattle.smith_judge.specs.declared.answer.Answer.{Answer as Judgement}
use Rattle.smith_judge.specs.declared.answer.Answer.TheVariants as judgements
use Rattle.smith_judge.specs.declared.verdict.Verdict.{Verdict}
use Rattle.smith_types.specs.Syntax.Features.{Features}
use Rattle.smith_c.specs.Files.{IsVerdict}

number_of : (judgement : Judgement) → (verdict_of judgement).kind ≡ answer_number judgement
number_of judgements.Valid = refl
number_of (judgements.Invalid finding) = refl
number_of (judgements.Malformed offset reason) = refl
number_of (judgements.FeatureOff offset) = refl
number_of (judgements.NotJudged gap) = refl

decided : (judgement : Judgement) (V : Type 0) → Decides judgement V → answer_number judgement ≡ 0 → V
decided judgements.Valid V holds is = holds
decided (judgements.Invalid finding) V holds is = absurd (omega (arith, is))
decided (judgements.Malformed offset reason) V holds is = absurd (omega (arith, is))
decided (judgements.FeatureOff offset) V holds is = absurd (omega (arith, is))
decided (judgements.NotJudged gap) V holds is = absurd (omega (arith, is))

refuted : (judgement : Judgement) (V : Type 0) → Decides judgement V
    → (answer_number judgement ≡ 1) ⊎ (answer_number judgement ≡ 2) → V → ⊥
refuted judgements.Valid V holds (inl is) valid = omega (arith, is)
refuted judgements.Valid V holds (inr is) valid = omega (arith, is)
refuted (judgements.Invalid finding) V holds is valid = holds valid
refuted (judgements.Malformed offset reason) V holds is valid = holds valid
refuted (judgements.FeatureOff offset) V holds is valid = holds valid
refuted (judgements.NotJudged gap) V holds (inl is) valid = omega (arith, is)
refuted (judgements.NotJudged gap) V holds (inr is) valid = omega (arith, is)

either : (verdict : Verdict) (judgement : Judgement) → verdict ≡ verdict_of judgement → (verdict.kind ≡ 1) ⊎ (verdict.kind ≡ 2)
    → (answer_number judgement ≡ 1) ⊎ (answer_number judgement ≡ 2)
either verdict judgement same (inl is) = inl (sym (ap (λ (v : Verdict). v.kind) same ∙ number_of judgement) ∙ is)
either verdict judgement same (inr is) = inr (sym (ap (λ (v : Verdict). v.kind) same ∙ number_of judgement) ∙ is)

pub right : (features : Features) (file : List ℕ) (verdict : Verdict) (judgement : Judgement) → verdict ≡ verdict_of judgement
    → Decides judgement (IsValidFile features file) → IsAnswer features file judgement → IsVerdict features file verdict
right features file verdict judgement same decides said = record {
  valid = λ is. decided judgement (IsValidFile features file) decides
      (sym (ap (λ (v : Verdict). v.kind) same ∙ number_of judgement) ∙ is);
  invalid = λ is. refuted judgement (IsValidFile features file) decides (either verdict judgement same is);
  judgement = judgement;
  said = said;
  numbers = same;
}
