use Rattle.smith_check_references.proofs.Common.{ap, bare, EitherRef, HasNonNull, IsSlotValid, not, Ref, subst, sym, ValType, Value, ◌∙◌}
use Rattle.smith_check_references.proofs.Common.{◌≡◌}
use Rattle.smith_check_references.specs.Rows.{IsLeastOf}
use Rattle.smith_check_references.proofs.ChoiceLemmas.{either_ref_non_null, ref_non_null}
use Rattle.smith_check_references.proofs.references.non_null.Goals as goal

pub returns-in-EitherRef : goal.returns-in-EitherRef
returns-in-EitherRef c =
    let context = bare c.args.scope.now in
    subst (λ s. IsLeastOf context (HasNonNull context) s (EitherRef c.in-EitherRef.ty)) (sym c.in-EitherRef.is)
    (either_ref_non_null context c.in-EitherRef.ty (subst (λ s. IsSlotValid context s) c.in-EitherRef.is c.requires))

pub returns-in-Value-Ref : goal.returns-in-Value-Ref
returns-in-Value-Ref c =
    let reference = c.in-Value-Ref.reference in
    let inside : c.in-Value-Ref.field-0 ≡ Ref c.in-Value-Ref.reference = rw c.in-Value-Ref.is at c.in-Value-Ref.field-0-is in
    let same : c.args.top ≡ Value (Ref c.in-Value-Ref.reference) = c.in-Value-Ref.is ∙ ap (λ (v : ValType). Value v) inside in
    subst (λ s. IsLeastOf (bare c.args.scope.now) (HasNonNull (bare c.args.scope.now)) s
    (Value (Ref (record { nullable = not c.contains.result; heap_type = reference.heap_type })))) (sym same)
    (ref_non_null (bare c.args.scope.now) reference (not c.contains.result) (ap (λ b. not b) c.contains.ensures)
    (subst (λ s. IsSlotValid (bare c.args.scope.now) s) same c.requires))
