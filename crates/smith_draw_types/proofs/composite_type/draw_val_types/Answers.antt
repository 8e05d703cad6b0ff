use Rattle.smith_draw_types.proofs.Common.{grow_full, rules}
use Rattle.smith_bytes.proofs.GrowingLoop.{grow_go, grow_stop}
use Rattle.smith_draw_types.proofs.composite_type.draw_val_types.Goals as goal

pub returns-then-not-goes_on : goal.returns-then-not-goes_on
returns-then-not-goes_on c =
    record {
      exact = grow_stop c.loop-made.invariant c.loop-made-test.true c.goes_on.ensures.exact c.if-not-goes_on.true;
      memory = search rules;
      left = search rules;
    }

pub loop-made-preserved : goal.loop-made-preserved
loop-made-preserved c = grow_go c.loop-made.invariant c.loop-made-test.true c.goes_on.ensures.exact c.if-not-goes_on.false
    c.draw_val_type_among-value.ensures.exact c.in_ok-push.ensures.ok c.goes_on.ensures.left c.draw_val_type_among-value.ensures.left

pub returns : goal.returns
returns c = record { exact = grow_full c.loop-made.invariant c.loop-made-test.false; memory = search rules; left = search rules }
