use Rattle.smith_draw_contents.proofs.OfferedIndexLemmas.{one_offered}
use Rattle.smith_draw_contents.proofs.offered_indices.OfferedIndices.offer.Goals as goal

pub returns : goal.returns
returns c = rw (← c.self.view_is) (one_offered c.self.inside.count c.self.inside.skipped c.self.invariant)
