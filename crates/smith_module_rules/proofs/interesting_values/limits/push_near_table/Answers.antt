use Rattle.std.proofs.lemmas.Result.{on_ok_weaker}
use Rattle.smith_module_rules.specs.CollectedValues.{IsNearElements}
use Rattle.smith_module_rules.proofs.CollectedValueLemmas.{adds_limits, adds_minimum}
use Rattle.smith_module_rules.proofs.interesting_values.limits.push_near_table.Goals as goal

pub returns-in-Some-clause-adds : goal.returns-in-Some-clause-adds
returns-in-Some-clause-adds c =
    let table = c.args.table.now in
    on_ok_weaker c.push_near_elements-in-Some.result
    (λ others. adds_limits IsNearElements table.minimum table.maximum c.in-Some.maximum c.in-Some.is c.in_ok-push_near_elements.ensures.adds
    others)
    c.push_near_elements-in-Some.ensures.adds

pub returns-in-None-clause-adds : goal.returns-in-None-clause-adds
returns-in-None-clause-adds c =
    let table = c.args.table.now in
    adds_minimum IsNearElements table.minimum table.maximum c.in-None.is c.in_ok-push_near_elements.ensures.adds
