use Rattle.smith_draw_types.proofs.SupertypeLemmas.{extensible_are}
use Rattle.smith_draw_types.proofs.sub_type.supertypes.Goals as goal

pub returns : goal.returns
returns c = extensible_are _ c.extensible.ensures.sound.orderly _ c.extensible.ensures.value
