use Rattle.smith_check_references.proofs.Common.{ap, bare, IsConverted, Ref, subst, sym, ValType, Value, ◌∙◌, ◌≡◌}
use Rattle.std.specs.Prelude.{MatchOption}
use Rattle.smith_check_references.specs.Rows.{HasNoneOf, IsLeastOf}
use Rattle.smith_check_references.proofs.conversions.conversion_of.Goals as goal

pub returns-in-Value-Ref : goal.returns-in-Value-Ref
returns-in-Value-Ref c =
    let context = bare c.args.scope.now in
    let inside : c.in-Value-Ref.field-0 ≡ Ref c.in-Value-Ref.reference = rw c.in-Value-Ref.is at c.in-Value-Ref.field-0-is in
    let same : c.args.top ≡ Value (Ref c.in-Value-Ref.reference) = c.in-Value-Ref.is ∙ ap (λ (v : ValType). Value v) inside in
    subst (λ top. MatchOption c.conversion_of_reference.result (HasNoneOf context (IsConverted c.args.outer c.args.inner) top)
    (λ given. IsLeastOf context (IsConverted c.args.outer c.args.inner) top given))
    (sym same) c.conversion_of_reference.ensures
