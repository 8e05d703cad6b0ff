use Rattle.smith_types.proofs.GrowthLemmas.{IsBelow-grown, IsRefBelow-grown, IsValBelow-grown}
use Rattle.smith_types.proofs.laws.subtyping_survives_growth.Goals as goal

pub returns : goal.returns
returns c = record {
  heap = λ types more a b p. IsBelow-grown types more p;
  reference = λ types more a b p. IsRefBelow-grown types more p;
  value = IsValBelow-grown;
}
