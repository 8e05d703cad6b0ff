use Rattle.smith_draw_contents.proofs.Common.{rules}
use Rattle.smith_draw_contents.proofs.DataTargetsLoop.{counting_begin, counting_more, counting_skip, counting_done}
use Rattle.smith_draw_contents.proofs.data_targets.offer_memories.Goals as goal

pub loop-memory-init : goal.loop-memory-init
loop-memory-init c = counting_begin c.args.memories.now c.new-offered.result c.args.u.now c.new-offered.ensures

pub loop-memory-preserved-then-not-is_target : goal.loop-memory-preserved-then-not-is_target
loop-memory-preserved-then-not-is_target c =
    counting_skip c.loop-memory.invariant c.loop-memory-test.true (search rules) c.is_target.ensures.exact c.if-not-is_target.true
    c.in_ok-leave_out.ensures.ok c.is_target.ensures.left

pub loop-memory-preserved : goal.loop-memory-preserved
loop-memory-preserved c =
    counting_more c.loop-memory.invariant c.loop-memory-test.true (search rules) c.is_target.ensures.exact c.if-not-is_target.false
    c.offer.ensures c.is_target.ensures.left

pub returns-clause-exact : goal.returns-clause-exact
returns-clause-exact c = counting_done c.loop-memory.invariant c.loop-memory-test.false
