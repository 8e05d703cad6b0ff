use Rattle.smith_draw_types.proofs.Common.{grow_full, rules}
use Rattle.smith_draw_types.proofs.UntilLoop.{until_go}
use Rattle.smith_draw_types.proofs.composite_type.draw_fields.Goals as goal

pub loop-made-preserved : goal.loop-made-preserved
loop-made-preserved c = until_go c.loop-made.invariant c.loop-made-test.true c.draw_field_type.ensures.exact c.in_ok-push.ensures.ok
    c.draw_field_type.ensures.left

pub returns : goal.returns
returns c = record { exact = grow_full c.loop-made.invariant c.loop-made-test.false; memory = search rules; left = search rules }
