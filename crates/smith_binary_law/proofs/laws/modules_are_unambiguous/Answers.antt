use Rattle.smith_binary_law.proofs.ModuleLemmas.{module_same}
use Rattle.smith_binary_law.proofs.laws.modules_are_unambiguous.Goals as goal

pub returns : goal.returns
returns c = module_same
