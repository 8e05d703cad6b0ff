use Rattle.smith_check_references.proofs.Common.{ap, I32, IsSlotValid, Ref, subst, sym, ValType, Value, ◌∙◌, ◌≡◌}
use Rattle.smith_check_references.specs.Choices.{ReadsAny}
use Rattle.smith_check_references.specs.Rows.{IsLeastOf}
use Rattle.smith_check_references.proofs.ChoiceLemmas.{bottom_read, some_ref_read, either_ref_read, ref_read}
use Rattle.smith_check_references.proofs.references.tested.Goals as goal

pub returns-in-Bottom : goal.returns-in-Bottom
returns-in-Bottom c = λ context valid.
    subst (λ s. IsLeastOf context (ReadsAny context) s (Value I32)) (sym c.in-Bottom.is) (bottom_read context)

pub returns-in-SomeRef : goal.returns-in-SomeRef
returns-in-SomeRef c = λ context valid.
    subst (λ s. IsLeastOf context (ReadsAny context) s (Value I32)) (sym c.in-SomeRef.is) (some_ref_read context)

pub returns-in-EitherRef : goal.returns-in-EitherRef
returns-in-EitherRef c = λ context valid.
    subst (λ s. IsLeastOf context (ReadsAny context) s (Value I32)) (sym c.in-EitherRef.is)
    (either_ref_read context c.in-EitherRef._ty (subst (λ s. IsSlotValid context s) c.in-EitherRef.is valid))

pub returns-in-Value-Ref : goal.returns-in-Value-Ref
returns-in-Value-Ref c = λ context valid.
    let inside : c.in-Value-Ref.field-0 ≡ Ref c.in-Value-Ref._reference = rw c.in-Value-Ref.is at c.in-Value-Ref.field-0-is in
    let same : c.args.top ≡ Value (Ref c.in-Value-Ref._reference) = c.in-Value-Ref.is ∙ ap (λ (v : ValType). Value v) inside in
    subst (λ s. IsLeastOf context (ReadsAny context) s (Value I32)) (sym same)
    (ref_read context c.in-Value-Ref._reference (subst (λ s. IsSlotValid context s) same valid))
