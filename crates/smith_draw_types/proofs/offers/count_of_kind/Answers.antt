use Rattle.smith_draw_types.proofs.Common.{sym, ◌∙◌}
use Rattle.smith_draw_types.proofs.OfferedPlaceLemmas.{one_kind}
use Rattle.smith_draw_types.proofs.offers.count_of_kind.Goals as goal

pub returns-clause-count : goal.returns-clause-count
returns-clause-count c = c.count_of_kind.ensures ∙ sym (one_kind c.args.space.now.types c.args.shared c.args.kind)
