use Rattle.smith_program.proofs.Common.{arith, common_steps}
use Rattle.smith_program.proofs.ObservedBodiesLemmas.{all_observed, none_observed, one_observed}
use Rattle.smith_program.proofs.observe.observed_bodies.Goals as goal

pub loop-place-init : goal.loop-place-init
loop-place-init c = record {
  each = grind (arith, common_steps);
  observed = none_observed c.args.first c.args.module.now c.args.bodies.now _;
}

pub loop-place-preserved : goal.loop-place-preserved
loop-place-preserved c = record {
  each = grind (arith, common_steps);
  observed = rw c.in_ok-push.ensures.ok
      (one_observed c.loop-place.place c.args.first c.args.module.now c.args.bodies.now c.loop-place.made _ _ c.loop-place.invariant.each
      c.index-bodies-place.is c.loop-place.invariant.observed c.in_ok-observed_body.ensures.ok);
}

pub returns-clause-ok : goal.returns-clause-ok
returns-clause-ok c =
    all_observed c.loop-place.place c.args.first c.args.module.now c.args.bodies.now c.loop-place.made (omega arith)
    c.loop-place.invariant.each c.loop-place.invariant.observed
