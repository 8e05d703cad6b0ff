use Rattle.smith_body_leaves.proofs.FirstLemmas.{chosen_first}
use Rattle.smith_body_leaves.proofs.first_created.first_offered.Goals as goal

pub returns-clause-exact : goal.returns-clause-exact
returns-clause-exact g c = chosen_first _ _ _ c.choose_offered.result c.new-nothing.ensures c.choose_offered.ensures.exact
