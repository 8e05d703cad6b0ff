use Rattle.smith_check_module.proofs.ExampleLemmas.{nothing_valid}
use Rattle.smith_check_module.proofs.examples.nothing.Goals as goal

pub returns : goal.returns
returns c = record { valid = nothing_valid }
