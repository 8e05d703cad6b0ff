use Rattle.smith_program.proofs.Common.{ap, arith, Code, common_steps, length, slice_get, Some, ◌≡◌}
use Rattle.smith_program.specs.Bodies.{IsDrawnAt, IsOfBody}
use Rattle.smith_program.proofs.DrawnBodiesLemmas.{all_drawn, none_drawn, one_drawn, still_held}
use Rattle.smith_program.proofs.bodies.draw_each.Goals as goal

pub loop-place-init : goal.loop-place-init
loop-place-init c = record {
  each = grind (arith, common_steps);
  drawn = grind (arith, common_steps);
  exact = rw c.in_ok-bodies.ensures.ok (none_drawn c.args.module.now c.args.u.now);
  kept = λ whole h. h;
}

pub loop-place-preserved : goal.loop-place-preserved
loop-place-preserved c = record {
  each = grind (arith, common_steps);
  drawn = rw c.in_ok-push.ensures.ok (still_held (λ k body. (code : Code) → slice_get c.args.module.now.code k ≡ Some code
      → IsOfBody (IsDrawnAt c.args.module.now k code) code body) c.loop-place.bodies _ c.loop-place.place c.loop-place.invariant.each
      c.loop-place.invariant.drawn c.in_ok-draw_one.ensures.body);
  exact = rw c.in_ok-push.ensures.ok (one_drawn c.args.module.now c.loop-place.place c.loop-place.bodies _ c.loop-place.u _ _
      (omega (arith, ap length c.code-place-end.ensures.items)) c.in_ok-draw_one.ensures.exact c.loop-place.invariant.exact);
  kept = λ whole h. c.draw_one.ensures.left whole (c.loop-place.invariant.kept whole h);
}

pub returns-clause-exact : goal.returns-clause-exact
returns-clause-exact c = all_drawn c.args.module.now c.loop-place.place c.loop-place.bodies c.loop-place.u _
    (omega (arith, ap length c.code-place-end.ensures.items)) c.loop-place.invariant.exact
