use Rattle.smith_draw_contents.proofs.Common.{grow_full, grow_go, grow_stop, rules}
use Rattle.smith_draw_contents.proofs.element_items.choose_functions.Goals as goal

pub returns-then-not-goes_on : goal.returns-then-not-goes_on
returns-then-not-goes_on c = record {
  exact = grow_stop c.loop-made.invariant c.loop-made-test.true c.goes_on.ensures.exact c.if-not-goes_on.true;
  memory = search rules;
  left = search rules;
}

pub loop-made-preserved : goal.loop-made-preserved
loop-made-preserved c =
    grow_go c.loop-made.invariant c.loop-made-test.true c.goes_on.ensures.exact c.if-not-goes_on.false c.choose.ensures.exact
    c.in_ok-push.ensures.ok c.goes_on.ensures.left c.choose.ensures.left

pub returns : goal.returns
returns c = record { exact = grow_full c.loop-made.invariant c.loop-made-test.false; memory = search rules; left = search rules }
