use Rattle.smith_draw_contents.proofs.Common.{IsGrowing}
use Rattle.smith_draw_contents.specs.DrawnBodies.{body_at, bodies_at}
use Rattle.smith_draw_contents.proofs.bodies.draw_each_body.Given as goal

abbrev pub invariant-loop-made : goal.invariant-loop-made
invariant-loop-made l = IsGrowing (λ _. body_at l.config l.standing) l.count l.count l.made l.bodies l.fn.u l.u
    (bodies_at l.config l.standing l.count l.fn.u)
