use Rattle.std.proofs.Common.{◌≡◌, sym, subst, ap, ◌∙◌}
use Rattle.std.specs.Prelude.{map}
use Rattle.std.proofs.lemmas.List.{take_all}
use Rattle.std.proofs.lemmas.Result.{IfOk-weaker}
use Rattle.smith_module_rules.specs.CollectedValues.{IsSortedSet}
use Rattle.smith_module_rules.proofs.CollectedValueLemmas.{all_narrow, low_half}
use Rattle.smith_module_rules.proofs.MergeLemmas.{order_after}
use Rattle.smith_module_rules.proofs.interesting_values.narrow_values.Goals as goal

pub returns-clause-those : goal.returns-clause-those
returns-clause-those c = λ tables memories limits.
    let near = c.args.near.now in
    let constants = c.narrow_constants.result.now in
    let numbers = c.deref.result.now in
    let halves : c.loop-number.halves.items ≡ map low_half near = c.loop-number.invariant ∙ ap (map low_half)
    (take_all c.loop-number.number-index near c.loop-number-test.false) in
    let order : IsSortedSet (map low_half near) numbers = subst (IsSortedSet (map low_half near)) (sym c.deref.ensures.value)
    (subst (λ xs. IsSortedSet xs c.in_ok-numbers.numbers.items) halves c.in_ok-numbers.ensures.order) in
    IfOk-weaker c.merge32.result _ _ (λ made merged. all_narrow tables memories constants near made c.narrow_constants.ensures.exactly
    limits (order_after constants (map low_half near) numbers made order merged)) c.merge32.ensures.order
