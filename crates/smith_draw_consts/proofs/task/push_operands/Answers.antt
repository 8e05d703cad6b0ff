use Rattle.smith_draw_consts.proofs.ConstTaskLemmas.{pushed_turn}
use Rattle.smith_draw_consts.proofs.task.push_operands.Goals as goal

pub loop-index-preserved : goal.loop-index-preserved
loop-index-preserved c = pushed_turn c.args.operands.now c.loop-index.index _ c.args.tasks.now.items _ _ c.loop-index-test.true
    c.loop-index.invariant c.in_ok-push.ensures.items
