use Rattle.smith_draw_contents.proofs.bodies.draw_bodies.Goals as goal

pub returns : goal.returns
returns c = rw c.scope-kept.ensures at c.draw_each_body.ensures
