use Rattle.smith_body_control.proofs.Common.{All-push, context_of, IsTaken}
use Rattle.std.proofs.lemmas.List.Elements.{All-nil}
use Rattle.smith_body_nodes.proofs.OfferLemmas.{target_there}
use Rattle.smith_body_control.proofs.TargetLemmas.{targets_all, targets_by, targets_more, targets_none, targets_stop}
use Rattle.smith_body_control.proofs.branches.draw_targets.Goals as goal

pub loop-init : goal.loop-init
loop-init c = record {
  drawn = rw c.new-targets.ensures (targets_none (context_of c.args.scope.now c.args.labels.now) c.args.taken.now
      c.draw_target_count-count.result c.draw_target_count-count.new.u);
  all = rw c.new-targets.ensures (All-nil (IsTaken (context_of c.args.scope.now c.args.labels.now) c.args.taken.now));
  kept = λ whole h. c.draw_target_count-count.ensures.left whole h;
}

pub loop-preserved : goal.loop-preserved
loop-preserved c =
    let context = context_of c.args.scope.now c.args.labels.now in
    let target = target_there c.args.scope.now c.args.labels.now c.args.taken.now c.in-Some.label c.requires.scope.orderly
    c.in-Some.ensures.offered in
    record {
      drawn = rw c.in_ok-push.ensures.ok (targets_more context c.args.taken.now _ c.loop.counter c.in-Some.label _ c.loop.targets c.loop.u _
          c.loop-test.true c.in-Some.ensures.exact c.loop.invariant.drawn);
      all = rw c.in_ok-push.ensures.ok (All-push (IsTaken context c.args.taken.now) c.loop.targets c.in-Some.label c.loop.invariant.all
          target);
      kept = λ whole h. c.choose_target.ensures.left whole (c.loop.invariant.kept whole h);
    }

pub returns-in_default-clause-exact : goal.returns-in_default-clause-exact
returns-in_default-clause-exact c =
    let context = context_of c.args.scope.now c.args.labels.now in
    targets_by context c.args.taken.now c.args.u.now _ _ c.loop.targets c.draw_target_count-count.result
    c.draw_target_count-count.ensures.exact
    (targets_stop context c.args.taken.now _ c.loop.counter _ c.loop.targets c.loop.u _ c.in_default.ensures.exact c.loop.invariant.drawn)

pub returns-clause-exact : goal.returns-clause-exact
returns-clause-exact c =
    let context = context_of c.args.scope.now c.args.labels.now in
    targets_by context c.args.taken.now c.args.u.now _ _ c.loop.targets c.draw_target_count-count.result
    c.draw_target_count-count.ensures.exact
    (targets_all context c.args.taken.now _ c.loop.counter _ c.loop.targets c.loop.u c.loop-test.false c.loop.invariant.drawn)
