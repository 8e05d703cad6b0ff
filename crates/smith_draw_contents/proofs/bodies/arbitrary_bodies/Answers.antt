use Rattle.smith_draw_contents.proofs.Common.{IfOk-weaker, of_drawn, standing_in}
use Rattle.smith_draw_contents.proofs.DrawnBodyLemmas.{bodies_each, bodies_valid, bodies_no_float, bodies_granted, none_raw}
use Rattle.smith_draw_contents.proofs.bodies.arbitrary_bodies.Goals as goal

pub returns : goal.returns
returns c =
    let config = c.args.config.now in
    let context = standing_in c.args.config.now c.args.spaces.now in
    let draws = c.draw_bodies.ensures in
    let valid = of_drawn _ draws (bodies_valid config context c.args.count c.args.u.now c.requires.sanitized) in
    record {
      draws = draws;
      each = of_drawn _ draws (bodies_each config context c.args.count c.args.u.now);
      valid = valid;
      granted = of_drawn _ draws (bodies_granted config context c.types-types.ensures.sound.orderly c.args.count c.args.u.now);
      floats = λ off. of_drawn _ draws (bodies_no_float config context c.args.count c.args.u.now off);
      no_raw = λ off. IfOk-weaker c.draw_bodies.result _ _ (λ bodies h. none_raw config _ bodies off h) valid;
    }
