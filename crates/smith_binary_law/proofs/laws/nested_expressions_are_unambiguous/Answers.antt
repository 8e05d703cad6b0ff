use Rattle.smith_binary_law.proofs.InstructionLemmas.{nested_same}
use Rattle.smith_binary_law.proofs.laws.nested_expressions_are_unambiguous.Goals as goal

pub returns : goal.returns
returns c = nested_same
