use Rattle.smith_types_examples.proofs.Common.{arith, ◌≡◌, length, replicate, length-replicate, All-replicate, I32, IsValTypeValid}
use Rattle.smith_types_examples.proofs.Common.{usual_features}
use Rattle.smith_types_examples.proofs.bodies.bodies.Goals as goal

pub returns-clause-a_hundred_locals : goal.returns-clause-a_hundred_locals
returns-clause-a_hundred_locals c = record {
  few = let e : length (replicate 100 I32) ≡ 100 = length-replicate 100 I32 in omega (arith, e);
  locals = All-replicate (IsValTypeValid usual_features 0) 100 I32 tt;
  instructions = tt;
}
