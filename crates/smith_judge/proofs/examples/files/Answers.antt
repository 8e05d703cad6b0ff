use Rattle.smith_judge.proofs.ExampleLemmas.{empty}
use Rattle.smith_judge.proofs.examples.files.Goals as goal

pub returns : goal.returns
returns c = record { empty = empty }
