use Rattle.smith_types.proofs.GrowthLemmas.{IsBelow-trans, IsRefBelow-trans, IsValBelow-trans}
use Rattle.smith_types.proofs.laws.subtyping_is_transitive.Goals as goal

pub returns : goal.returns
returns c = record {
  heap = λ types a b c p q. IsBelow-trans types p q;
  reference = λ types a b c p q. IsRefBelow-trans types p q;
  value = IsValBelow-trans;
}
