use Rattle.std.proofs.Common.{◌≡◌, ◌+◌, refl}
use Rattle.std.proofs.lemmas.Result.{on_ok_weaker}
use Rattle.smith_module_rules.proofs.CollectedValueLemmas.{adds_either, adds_one}
use Rattle.smith_module_rules.proofs.interesting_values.limits.push_near_elements.Goals as goal

pub returns-clause-adds : goal.returns-clause-adds
returns-clause-adds c =
    let limit = c.args.limit in
    let itself = adds_one {Holds = λ n. n ≡ limit} limit c.in_ok-push.ensures.ok c.ranges.limit.fits refl (λ n same. same) in
    on_ok_weaker c.push_sum.result (λ other. adds_either (λ n. n ≡ limit) (λ n. n ≡ limit + 1) itself other) c.push_sum.ensures.adds
