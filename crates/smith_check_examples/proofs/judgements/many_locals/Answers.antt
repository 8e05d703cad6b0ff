use Rattle.std.proofs.Common.{arith}
use Rattle.smith_check_examples.proofs.FaultLemmas.{few_locals, many_locals}
use Rattle.smith_check_examples.proofs.judgements.many_locals.Goals as goal

pub returns : goal.returns
returns c = record { too_many = many_locals; few = few_locals; few_types = λ many. omega (arith, many) }
