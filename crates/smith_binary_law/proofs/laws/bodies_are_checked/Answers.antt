use Rattle.smith_binary_law.proofs.CheckLemmas.{checked_spelled}
use Rattle.smith_binary_law.proofs.laws.bodies_are_checked.Goals as goal

pub returns : goal.returns
returns c = checked_spelled
