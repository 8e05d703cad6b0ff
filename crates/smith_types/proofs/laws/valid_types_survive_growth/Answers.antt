use Rattle.smith_types.proofs.TypeGrowthLemmas.{AreTypesValid-more}
use Rattle.smith_types.proofs.laws.valid_types_survive_growth.Goals as goal

pub returns : goal.returns
returns c = AreTypesValid-more
