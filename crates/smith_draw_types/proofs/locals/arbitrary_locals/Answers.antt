use Rattle.smith_draw_types.specs.Drawing.{Draws}
use Rattle.smith_draw_types.specs.Locals.{locals_at}
use Rattle.smith_draw_types.specs.Grounding.{standing_in}
use Rattle.smith_draw_types.proofs.DrawingLemmas.{of_drawn}
use Rattle.smith_draw_types.proofs.GrantedLemmas.{locals_granted}
use Rattle.smith_draw_types.proofs.LocalLemmas.{locals_most, locals_valid, locals_no_float, locals_nullable}
use Rattle.smith_draw_types.proofs.locals.arbitrary_locals.Goals as goal

pub returns : goal.returns
returns c =
    let config = c.args.config.now in
    let context = standing_in c.args.config.now c.args.spaces.now in
    let draws : Draws (locals_at config context c.args.u.now) c.draw_locals-drawn.result c.args.u.now c.draw_locals-drawn.new.u =
    rw (c.scope-standing.ensures, c.in_ok-call.ensures.exact) at c.draw_locals-drawn.ensures in
    record {
      draws = draws;
      most = of_drawn _ draws (locals_most config context c.args.u.now);
      granted = of_drawn _ draws (locals_granted config context c.orderly.ensures c.args.u.now);
      valid = of_drawn _ draws (locals_valid config context c.args.u.now c.requires);
      floats = λ off. of_drawn _ draws (locals_no_float config context c.args.u.now off);
      nullable = λ off. of_drawn _ draws (locals_nullable config off context c.args.u.now);
    }
