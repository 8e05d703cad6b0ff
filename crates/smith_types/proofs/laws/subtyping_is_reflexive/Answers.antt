use Rattle.smith_types.specs.Subtyping.{itself}
use Rattle.smith_types.proofs.GrowthLemmas.{IsRefBelow-refl, IsValBelow-refl}
use Rattle.smith_types.proofs.laws.subtyping_is_reflexive.Goals as goal

pub returns : goal.returns
returns c = record { heap = λ types a. itself; reference = IsRefBelow-refl; value = IsValBelow-refl }
