use Rattle.smith_body_leaves.proofs.Common.{cast_signed, to_z-of_z, ◌∙◌}
use Rattle.std.specs.Int.{w32, w8}
use Rattle.smith_body_leaves.specs.Constants.{constant_ways, integer32_at, integer32_by, integers32}
use Rattle.smith_body_leaves.specs.declared.constant_tables.ConstantWay.TheVariants as way
use Rattle.smith_body_leaves.proofs.ConstantLemmas.{by_family, changed, listed}
use Rattle.smith_body_leaves.proofs.constants.draw_integer32.Goals as goal

pub returns-in-Small-clause-exact : goal.returns-in-Small-clause-exact
unfolding integer32_at
returns-in-Small-clause-exact c =
    by_family integer32_by way.Small constant_ways c.constant_ways.result.now c.args.u.now _ _ c.choose.result way.Small _
    c.constant_ways.ensures (c.choose.ensures.exact way.Small) c.in-Small.is
    (changed (cast_signed w8) _ _ _ _ c.arbitrary.ensures.exact (to_z-of_z w32 c.from.result (record { sfits = c.from.type_inv }) ∙
    (c.from.ensures ∙ (to_z-of_z w8 c.cast_signed.result (record { sfits = c.cast_signed.type_inv }) ∙ c.cast_signed.ensures))))

pub returns-in-Interesting-clause-exact : goal.returns-in-Interesting-clause-exact
unfolding integer32_at
returns-in-Interesting-clause-exact c =
    by_family integer32_by way.Small constant_ways c.constant_ways.result.now c.args.u.now _ _ c.choose.result way.Interesting _
    c.constant_ways.ensures (c.choose.ensures.exact way.Small) c.in-Interesting.is
    (changed (cast_signed w32) _ _ _ _ (listed integers32 c.integers32.result.now _ _ _ c.integers32.ensures
    c.choose-in-Interesting.ensures.exact) (to_z-of_z w32 c.cast_signed-in-Interesting.result
    (record { sfits = c.cast_signed-in-Interesting.type_inv }) ∙ c.cast_signed-in-Interesting.ensures))

pub returns-in-Whole-clause-exact : goal.returns-in-Whole-clause-exact
unfolding integer32_at
returns-in-Whole-clause-exact c =
    by_family integer32_by way.Small constant_ways c.constant_ways.result.now c.args.u.now _ _ c.choose.result way.Whole _
    c.constant_ways.ensures (c.choose.ensures.exact way.Small) c.in-Whole.is
    (rw (to_z-of_z w32 c.arbitrary-in-Whole.result (record { sfits = c.arbitrary-in-Whole.type_inv })) c.arbitrary-in-Whole.ensures.exact)
