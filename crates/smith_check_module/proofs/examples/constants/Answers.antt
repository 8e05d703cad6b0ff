use Rattle.smith_check_module.proofs.ExampleLemmas.{one_constant}
use Rattle.smith_check_module.proofs.examples.constants.Goals as goal

pub returns : goal.returns
returns c = record { number = one_constant }
