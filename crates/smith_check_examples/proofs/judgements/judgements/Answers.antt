use Rattle.smith_check.proofs.ExampleLemmas.{does_nothing_valid}
use Rattle.smith_check_examples.proofs.BodyLemmas.{drop_not_valid}
use Rattle.smith_check_examples.proofs.FaultLemmas.{drop_first}
use Rattle.smith_check_examples.proofs.judgements.judgements.Goals as goal

pub returns : goal.returns
returns c = record {
  valid = does_nothing_valid;
  invalid = (drop_not_valid, drop_first);
  not_valid = drop_not_valid;
  not_invalid = λ (invalid, first). invalid does_nothing_valid;
}
