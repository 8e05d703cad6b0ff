use Rattle.smith_draw_types.proofs.OfferedPlaceLemmas.{direct_counted}
use Rattle.smith_draw_types.proofs.offers.count_direct.Goals as goal

pub returns-clause-count : goal.returns-clause-count
returns-clause-count c = direct_counted c.args.space.now.types c.args.supertype _ c.count_of_direct_subtypes.ensures
