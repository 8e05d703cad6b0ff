use Rattle.std.proofs.lemmas.Result.{on_ok_weaker}
use Rattle.smith_module_rules.specs.InterestingValues.{bytes_of}
use Rattle.smith_module_rules.specs.CollectedValues.{IsNearBytes}
use Rattle.smith_module_rules.proofs.CollectedValueLemmas.{adds_limits, adds_minimum}
use Rattle.smith_module_rules.proofs.interesting_values.limits.push_near_memory.Goals as goal

pub returns-in-Some-clause-adds : goal.returns-in-Some-clause-adds
returns-in-Some-clause-adds c =
    let memory = c.args.memory.now in
    let least = rw c.bytes_of.ensures at c.in_ok-push_near_bytes.ensures.adds in
    on_ok_weaker c.push_near_bytes-in-Some.result
    (λ others. adds_limits (λ pages n. IsNearBytes (bytes_of memory pages) n) memory.minimum memory.maximum c.in-Some.maximum c.in-Some.is
    least (rw c.bytes_of-in-Some.ensures at others))
    c.push_near_bytes-in-Some.ensures.adds

pub returns-in-None-clause-adds : goal.returns-in-None-clause-adds
returns-in-None-clause-adds c =
    let memory = c.args.memory.now in
    let least = rw c.bytes_of.ensures at c.in_ok-push_near_bytes.ensures.adds in
    adds_minimum (λ pages n. IsNearBytes (bytes_of memory pages) n) memory.minimum memory.maximum c.in-None.is least
