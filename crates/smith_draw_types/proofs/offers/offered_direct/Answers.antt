use Rattle.smith_draw_types.proofs.OfferedPlaceLemmas.{direct_inside, direct_found}
use Rattle.smith_draw_types.proofs.offers.offered_direct.Goals as goal

pub direct_subtype-requires : goal.direct_subtype-requires
direct_subtype-requires c = direct_inside c.args.space.now.types c.args.supertype c.args.place c.requires.inside

pub returns : goal.returns
returns c = direct_found c.args.space.now.types c.args.supertype c.args.place _ c.direct_subtype.ensures
