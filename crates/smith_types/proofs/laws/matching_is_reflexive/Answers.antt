use Rattle.smith_types.proofs.GrowthLemmas.{IsCompositeMatch-refl}
use Rattle.smith_types.proofs.laws.matching_is_reflexive.Goals as goal

pub returns : goal.returns
returns c = IsCompositeMatch-refl
