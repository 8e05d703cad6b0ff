use Rattle.smith_draw_contents.proofs.Common.{All, All-nil, All-push, arith, ConstInstr, GivesNoFloat, IsConstExpr, List, Ref, refl}
use Rattle.smith_draw_contents.proofs.Common.{refused_with, seen_by, true, ◌-◌, ◌≡◌}
use Rattle.smith_draw_consts.proofs.TriedLoop.{try_go, try_refused, try_stop, try_full}
use Rattle.smith_draw_contents.specs.ElementSegments.{drawn_expressions_at}
use Rattle.smith_draw_contents.proofs.element_items.draw_each_expression.Goals as goal

pub loop-made-init : goal.loop-made-init
unfolding drawn_expressions_at
loop-made-init c =
    let context = seen_by c.args.config.now c.args.spaces.now true in
    let all : c.args.most - 0 ≡ c.args.most = omega arith in
    rw c.new-items.ensures (record {
      growing = record { len = refl; so_far = rw all refl; left = λ whole h. h };
      typed = All-nil (IsConstExpr context (Ref c.args.ty));
      floats = λ calm. All-nil (All GivesNoFloat);
      kept = c.requires.kept;
    })

pub returns-then-not-goes_on-clause-exact : goal.returns-then-not-goes_on-clause-exact
returns-then-not-goes_on-clause-exact c = try_stop c.loop-made.invariant.growing c.loop-made-test.true c.goes_on.ensures.exact
    c.if-not-goes_on.true

pub loop-made-preserved : goal.loop-made-preserved
loop-made-preserved c =
    let context = seen_by c.args.config.now c.args.spaces.now true in
    let item = c.in_ok-draw_expression_item.ensures in
    record {
      growing = try_go c.loop-made.invariant.growing c.loop-made-test.true c.goes_on.ensures.exact c.if-not-goes_on.false item.exact
          c.in_ok-push.ensures.ok c.goes_on.ensures.left item.left;
      typed = rw c.in_ok-push.ensures.ok (All-push (IsConstExpr context (Ref c.args.ty)) c.loop-made.items _ c.loop-made.invariant.typed
          item.typed);
      floats = λ calm. rw c.in_ok-push.ensures.ok (All-push (All GivesNoFloat) c.loop-made.items _ (c.loop-made.invariant.floats calm)
          (item.floats calm));
      kept = item.kept;
    }

pub returns-clause-exact : goal.returns-clause-exact
returns-clause-exact c = try_full c.loop-made.invariant.growing c.loop-made-test.false

pub returns-in_err-draw_expression_item-clause-exact : goal.returns-in_err-draw_expression_item-clause-exact
returns-in_err-draw_expression_item-clause-exact c =
    refused_with {X = List ConstInstr} (λ drawn. (drawn, c.draw_expression_item.new.u)) _ c.in_err-draw_expression_item.field-0.0 _ _
    c.from_residual.result c.in_err-draw_expression_item.ensures.exact
    (try_refused c.loop-made.invariant.growing c.loop-made-test.true c.goes_on.ensures.exact c.if-not-goes_on.false)
    c.from_residual.ensures.1
