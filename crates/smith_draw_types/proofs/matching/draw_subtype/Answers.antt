use Rattle.smith_draw_types.proofs.Common.{rules}
use Rattle.smith_draw_types.proofs.ChosenLemmas.{chosen_alone}
use Rattle.smith_draw_types.proofs.matching.draw_subtype.Goals as goal

pub returns-in-Exact : goal.returns-in-Exact
returns-in-Exact c = record { exact = rw c.in-Exact.is (chosen_alone _ _); left = search rules }
