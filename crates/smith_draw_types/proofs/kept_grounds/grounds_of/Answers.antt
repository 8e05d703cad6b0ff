use Rattle.smith_draw_types.proofs.Common.{[], ap, length, refl, sym}
use Rattle.smith_draw_types.specs.Grounding.{standing_in, with_functions}
use Rattle.smith_draw_types.proofs.kept_grounds.grounds_of.Goals as goal

pub note_functions-requires : goal.note_functions-requires
note_functions-requires c = c.in_ok-grounds.ensures.none (with_functions (standing_in c.args.config.now c.args.spaces.now) []) refl
    (sym (ap length c.types.ensures.value))
