use Rattle.smith_binary_law.proofs.InstructionLemmas.{expr_is_unambiguous}
use Rattle.smith_binary_law.proofs.laws.expressions_are_unambiguous.Goals as goal

pub returns : goal.returns
returns c = expr_is_unambiguous.one
