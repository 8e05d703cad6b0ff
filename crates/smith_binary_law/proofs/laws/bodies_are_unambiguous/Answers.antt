use Rattle.smith_binary_law.proofs.InstructionLemmas.{body_is_unambiguous}
use Rattle.smith_binary_law.proofs.laws.bodies_are_unambiguous.Goals as goal

pub returns : goal.returns
returns c = body_is_unambiguous
