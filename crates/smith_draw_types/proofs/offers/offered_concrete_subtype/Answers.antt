use Rattle.smith_draw_types.proofs.OfferedPlaceLemmas.{after_direct}
use Rattle.smith_draw_types.proofs.offers.offered_concrete_subtype.Goals as goal

pub returns : goal.returns
returns c = after_direct _ _ _ c.args.place c.count_direct-direct.result _ c.count_direct-direct.ensures.count c.if-place-direct.false
    c.offered_below.ensures
