use Rattle.smith_draw_types.proofs.BelowLemmas.{val_tested}
use Rattle.smith_draw_consts.proofs.references.is_below.Goals as goal

pub returns : goal.returns
returns c = val_tested _ c.types-types.ensures.sound.orderly _ _ _ c.val_type_is_sub_type.ensures
