use Rattle.std.proofs.Common.{◌≡◌, ◌+◌}
use Rattle.std.proofs.lemmas.Result.{on_ok_weaker}
use Rattle.smith_module_rules.proofs.CollectedValueLemmas.{adds_either}
use Rattle.smith_module_rules.proofs.interesting_values.limits.push_beside.Goals as goal

pub returns-clause-adds : goal.returns-clause-adds
returns-clause-adds c =
    let limit = c.args.limit in
    let distance = c.args.distance in
    on_ok_weaker c.push_difference.result (λ others. adds_either (λ n. n ≡ limit + distance) (λ n. n + distance ≡ limit)
    c.in_ok-push_sum.ensures.adds others) c.push_difference.ensures.adds
