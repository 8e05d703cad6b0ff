use Rattle.smith_check_module.proofs.Common.{false≢true, IsValInRange, subst, sym, ◌∙◌}
use Rattle.smith_check_module.proofs.SignatureLemmas.{above_value}
use Rattle.smith_check_module.proofs.expression.is_below.Goals as goal

pub returns-else-holds : goal.returns-else-holds
returns-else-holds c = (
  λ holds. absurd (false≢true (sym c.if-holds.false ∙ holds)),
  λ below. c.holds.ensures.1 (subst (λ ts. IsValInRange ts c.args.wanted) (sym c.types.ensures.value)
      (above_value c.args.scope.now.types.now.types c.requires.scope.orderly c.args.value c.args.wanted below c.requires.stands)),
)
