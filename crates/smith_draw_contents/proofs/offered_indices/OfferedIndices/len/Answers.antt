use Rattle.smith_draw_contents.proofs.Common.{sym}
use Rattle.smith_draw_contents.proofs.OfferedIndexLemmas.{length_offered}
use Rattle.smith_draw_contents.proofs.offered_indices.OfferedIndices.len.Goals as goal

pub returns-clause-exact : goal.returns-clause-exact
returns-clause-exact c = rw (← c.self.view_is) (sym (length_offered c.self.inside.skipped c.self.inside.count))
