use Rattle.smith_draw_types.proofs.AncestorLemmas.{ancestors_up}
use Rattle.smith_draw_examples.proofs.offers.ancestors_are_all.Goals as goal

pub returns : goal.returns
returns c = ancestors_up
