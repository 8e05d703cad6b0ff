use Rattle.smith_draw_types.proofs.Common.{rules}
use Rattle.smith_draw_types.proofs.EachLoop.{each_more, each_all}
use Rattle.smith_draw_types.proofs.each.draw_each.Goals as goal

pub loop-item-preserved : goal.loop-item-preserved
loop-item-preserved g c = each_more c.loop-item.invariant c.loop-item-test.true (search rules) c.in_ok-draw.ensures.exact
    c.in_ok-push.ensures.ok c.draw.ensures.left

pub returns : goal.returns
returns g c = record { exact = each_all c.loop-item.invariant c.loop-item-test.false; memory = search rules; left = search rules }
