use Rattle.smith_body_leaves.specs.Constants.{constant_ways, doubles, double_at, double_by, small_doubles}
use Rattle.smith_body_leaves.specs.declared.constant_tables.ConstantWay.TheVariants as way
use Rattle.smith_body_leaves.proofs.ConstantLemmas.{by_family, listed}
use Rattle.smith_body_leaves.proofs.constants.draw_double.Goals as goal

pub returns-in-Small-clause-exact : goal.returns-in-Small-clause-exact
unfolding double_at
returns-in-Small-clause-exact c =
    by_family double_by way.Small constant_ways c.constant_ways.result.now c.args.u.now _ _ c.choose.result way.Small _
    c.constant_ways.ensures (c.choose.ensures.exact way.Small) c.in-Small.is
    (listed small_doubles c.small_doubles.result.now _ _ _ c.small_doubles.ensures c.choose-in-Small.ensures.exact)

pub returns-in-Interesting-clause-exact : goal.returns-in-Interesting-clause-exact
unfolding double_at
returns-in-Interesting-clause-exact c =
    by_family double_by way.Small constant_ways c.constant_ways.result.now c.args.u.now _ _ c.choose.result way.Interesting _
    c.constant_ways.ensures (c.choose.ensures.exact way.Small) c.in-Interesting.is
    (listed doubles c.doubles.result.now _ _ _ c.doubles.ensures c.choose-in-Interesting.ensures.exact)

pub returns-in-Whole-clause-exact : goal.returns-in-Whole-clause-exact
unfolding double_at
returns-in-Whole-clause-exact c =
    by_family double_by way.Small constant_ways c.constant_ways.result.now c.args.u.now _ _ c.choose.result way.Whole _
    c.constant_ways.ensures (c.choose.ensures.exact way.Small) c.in-Whole.is
    (c.arbitrary.ensures.exact)
