use Rattle.smith_body.proofs.Common.{arith, refl}
use Rattle.smith_body.proofs.SettledLemmas.{all_settled, first_settled, last_drawn, last_settled, none_drawn, none_settled}
use Rattle.smith_body.proofs.settled.settle_values.Goals as goal

pub loop-place-init : goal.loop-place-init
loop-place-init c = record {
  drawn = none_drawn c.args.scope.now c.args.draft.now c.args.values.now c.requires.values;
  exact = none_settled c.args.scope.now.config.now c.args.values.now _;
  kept = λ whole h. h;
}

pub loop-place-preserved : goal.loop-place-preserved
loop-place-preserved c = record {
  drawn = last_drawn c.args.values.now c.loop-place.place _ c.loop-place-test.true c.requires.values c.loop-place.invariant.drawn
      c.in_ok-settle_value.ensures.drawn;
  exact = last_settled c.args.scope.now.config.now c.args.values.now c.loop-place.place _ _ _ _ c.loop-place-test.true
      c.loop-place.invariant.exact c.in_ok-settle_value.ensures.exact;
  kept = λ whole h. c.settle_value.ensures.left whole (c.loop-place.invariant.kept whole h);
}

pub returns-clause-exact : goal.returns-clause-exact
returns-clause-exact c =
    all_settled c.args.scope.now.config.now c.args.values.now c.loop-place.place _ _ (omega arith) c.loop-place.invariant.exact

pub returns-clause-drawn : goal.returns-clause-drawn
returns-clause-drawn c = first_settled c.args.values.now c.loop-place.place (omega arith) c.loop-place.invariant.drawn
