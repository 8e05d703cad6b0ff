use Rattle.smith_draw_definitions.proofs.Common.{chosen_at, rules, types_for}
use Rattle.smith_draw_definitions.proofs.DefinedLoop.{after_start, after_go, after_stop, after_full}
use Rattle.smith_draw_definitions.proofs.typed_entities.choose_types.Goals as goal

pub loop-made-init : goal.loop-made-init
loop-made-init c = after_start (λ _. chosen_at 0 (types_for c.args.for_use c.args.types.now.types)) c.args.least c.args.most
    c.args.items.now c.args.u.now

pub returns-then-not-goes_on : goal.returns-then-not-goes_on
returns-then-not-goes_on c =
    let count = c.len-before.ensures in
    record {
      exact = after_stop c.loop-made.invariant (rw (c.saturating_sub-made-end.ensures, count) at c.loop-made-test.true)
          (rw (c.saturating_sub-needed.ensures, count) at c.goes_on.ensures.exact) c.if-not-goes_on.true;
      memory = search rules;
      left = search rules;
    }

pub loop-made-preserved : goal.loop-made-preserved
loop-made-preserved c =
    let count = c.len-before.ensures in
    after_go c.loop-made.invariant (rw (c.saturating_sub-made-end.ensures, count) at c.loop-made-test.true)
    (rw (c.saturating_sub-needed.ensures, count) at c.goes_on.ensures.exact) c.if-not-goes_on.false c.choose_type.ensures.draws.exact
    c.in_ok-push.ensures.ok c.goes_on.ensures.left c.choose_type.ensures.draws.left

pub returns : goal.returns
returns c =
    let count = c.len-before.ensures in
    record {
      exact = after_full c.loop-made.invariant (rw (c.saturating_sub-made-end.ensures, count) at c.loop-made-test.false)
          (rw count at c.discard_past_maximum.ensures.exact);
      memory = search rules;
      left = search rules;
    }
