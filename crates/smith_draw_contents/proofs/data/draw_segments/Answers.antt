use Rattle.smith_draw_contents.proofs.Common.{All-push, grow_full, grow_go, grow_stop, rules}
use Rattle.smith_draw_contents.specs.DataTargets.{IsDataFit}
use Rattle.smith_draw_contents.proofs.data.draw_segments.Goals as goal

pub returns-then-not-goes_on-clause-draws : goal.returns-then-not-goes_on-clause-draws
returns-then-not-goes_on-clause-draws c = record {
  exact = grow_stop c.loop-made.invariant.growing c.loop-made-test.true c.goes_on.ensures.exact c.if-not-goes_on.true;
  memory = search rules;
  left = search rules;
}

pub loop-made-preserved : goal.loop-made-preserved
loop-made-preserved c = record {
  growing = grow_go c.loop-made.invariant.growing c.loop-made-test.true c.goes_on.ensures.exact c.if-not-goes_on.false
      c.in_ok-draw_segment.ensures.draws.exact c.in_ok-push.ensures.ok c.goes_on.ensures.left c.in_ok-draw_segment.ensures.draws.left;
  fit = λ context memories targets.
      rw c.in_ok-push.ensures.ok (All-push (IsDataFit c.args.config.now context memories) c.loop-made.segments _
      (c.loop-made.invariant.fit context memories targets) (c.in_ok-draw_segment.ensures.fit context memories targets));
}

pub returns-clause-draws : goal.returns-clause-draws
returns-clause-draws c = record {
  exact = grow_full c.loop-made.invariant.growing c.loop-made-test.false;
  memory = search rules;
  left = search rules;
}
