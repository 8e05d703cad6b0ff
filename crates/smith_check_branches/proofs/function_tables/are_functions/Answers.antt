use Rattle.smith_check_branches.proofs.Common.{false≢true, IsInRange, subst, sym, ◌∙◌}
use Rattle.smith_check_branches.proofs.CallLemmas.{functions_stand}
use Rattle.smith_check_branches.proofs.function_tables.are_functions.Goals as goal

pub returns-then-not-holds : goal.returns-then-not-holds
returns-then-not-holds c = (
  λ h. absurd (false≢true h),
  λ f. absurd (false≢true (sym c.if-not-holds.true ∙ c.holds.ensures.1
      (subst (λ ts. IsInRange ts c.args.element.heap_type) (sym c.types.ensures.value)
      (functions_stand c.args.types.now.types c.args.element f)))),
)
