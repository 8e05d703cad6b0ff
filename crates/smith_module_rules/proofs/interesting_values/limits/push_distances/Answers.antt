use Rattle.smith_module_rules.specs.CollectedValues.{IsBeside, distances}
use Rattle.smith_module_rules.proofs.CollectedValueLemmas.{adds_last, adds_next}
use Rattle.smith_module_rules.proofs.interesting_values.limits.push_distances.Goals as goal

pub loop-distance-preserved : goal.loop-distance-preserved
loop-distance-preserved c =
    adds_next (IsBeside c.args.bytes) distances c.loop-distance.distance-index _ c.loop-distance-test.true c.loop-distance.invariant
    c.in_ok-push_beside.ensures.adds

pub returns-clause-adds : goal.returns-clause-adds
returns-clause-adds c = adds_last (IsBeside c.args.bytes) distances c.loop-distance.distance-index c.loop-distance-test.false
    c.loop-distance.invariant
