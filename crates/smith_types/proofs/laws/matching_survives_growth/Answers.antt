use Rattle.smith_types.proofs.GrowthLemmas.{IsCompositeMatch-grown}
use Rattle.smith_types.proofs.laws.matching_survives_growth.Goals as goal

pub returns : goal.returns
returns c = IsCompositeMatch-grown
