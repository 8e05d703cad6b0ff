use Rattle.std.proofs.Common.{sym, subst}
use Rattle.std.proofs.lemmas.Result.{IfOk-weaker}
use Rattle.smith_module_rules.specs.CollectedValues.{IsSortedSet}
use Rattle.smith_module_rules.proofs.CollectedValueLemmas.{all_wide}
use Rattle.smith_module_rules.proofs.MergeLemmas.{order_after}
use Rattle.smith_module_rules.proofs.interesting_values.wide_values.Goals as goal

pub returns-clause-those : goal.returns-clause-those
returns-clause-those c = λ tables memories limits.
    let near = c.args.near.now in
    let constants = c.wide_constants.result.now in
    let numbers = c.deref.result.now in
    let order : IsSortedSet near numbers = subst (IsSortedSet near) (sym c.deref.ensures.value)
    (subst (λ xs. IsSortedSet xs c.in_ok-numbers.numbers.items) c.in_ok-from_slice.ensures.items c.in_ok-numbers.ensures.order) in
    IfOk-weaker c.merge64.result _ _ (λ made merged. all_wide tables memories constants near made c.wide_constants.ensures.exactly limits
    (order_after constants near numbers made order merged)) c.merge64.ensures.order
