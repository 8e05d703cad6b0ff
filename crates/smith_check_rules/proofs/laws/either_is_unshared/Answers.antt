use Rattle.smith_check_rules.proofs.ConversionLemmas.{either_unshared}
use Rattle.smith_check_rules.proofs.laws.either_is_unshared.Goals as goal

pub returns : goal.returns
returns c = either_unshared
