use Rattle.smith_draw_types.proofs.Common.{refl}
use Rattle.smith_draw_types.specs.Grounding.{standing_in}
use Rattle.smith_draw_types.proofs.KeptGroundLemmas.{function_added, all_noted}
use Rattle.smith_draw_types.proofs.kept_grounds.note_functions.Goals as goal

pub loop-function-preserved : goal.loop-function-preserved
loop-function-preserved c =
    let context = standing_in c.args.config.now c.args.spaces.now in
    c.note.ensures _ _ refl (function_added context c.args.spaces.now.entities.funcs.now c.loop-function.function _ 0
    c.is_exact-exact.result c.loop-function-test.true refl c.is_exact-exact.ensures) c.loop-function.invariant

pub returns : goal.returns
returns c =
    all_noted (standing_in c.args.config.now c.args.spaces.now) c.args.spaces.now.entities.funcs.now c.loop-function.function
    c.loop-function.grounds c.loop-function-test.false c.loop-function.invariant
