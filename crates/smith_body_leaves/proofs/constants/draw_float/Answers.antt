use Rattle.smith_body_leaves.specs.Constants.{constant_ways, floats, float_at, float_by, small_floats}
use Rattle.smith_body_leaves.specs.declared.constant_tables.ConstantWay.TheVariants as way
use Rattle.smith_body_leaves.proofs.ConstantLemmas.{by_family, listed}
use Rattle.smith_body_leaves.proofs.constants.draw_float.Goals as goal

pub returns-in-Small-clause-exact : goal.returns-in-Small-clause-exact
unfolding float_at
returns-in-Small-clause-exact c =
    by_family float_by way.Small constant_ways c.constant_ways.result.now c.args.u.now _ _ c.choose.result way.Small _
    c.constant_ways.ensures (c.choose.ensures.exact way.Small) c.in-Small.is
    (listed small_floats c.small_floats.result.now _ _ _ c.small_floats.ensures c.choose-in-Small.ensures.exact)

pub returns-in-Interesting-clause-exact : goal.returns-in-Interesting-clause-exact
unfolding float_at
returns-in-Interesting-clause-exact c =
    by_family float_by way.Small constant_ways c.constant_ways.result.now c.args.u.now _ _ c.choose.result way.Interesting _
    c.constant_ways.ensures (c.choose.ensures.exact way.Small) c.in-Interesting.is
    (listed floats c.floats.result.now _ _ _ c.floats.ensures c.choose-in-Interesting.ensures.exact)

pub returns-in-Whole-clause-exact : goal.returns-in-Whole-clause-exact
unfolding float_at
returns-in-Whole-clause-exact c =
    by_family float_by way.Small constant_ways c.constant_ways.result.now c.args.u.now _ _ c.choose.result way.Whole _
    c.constant_ways.ensures (c.choose.ensures.exact way.Small) c.in-Whole.is
    (c.arbitrary.ensures.exact)
