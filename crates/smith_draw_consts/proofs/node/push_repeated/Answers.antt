use Rattle.smith_draw_consts.proofs.ConstNodeLemmas.{repeated_more}
use Rattle.smith_draw_consts.proofs.node.push_repeated.Goals as goal

pub loop-preserved : goal.loop-preserved
loop-preserved c = repeated_more _ _ _ _ _ _ c.loop-test.true c.in_ok-push_fields.ensures.ok c.loop.invariant
