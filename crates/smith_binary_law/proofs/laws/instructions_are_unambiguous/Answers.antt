use Rattle.smith_binary_law.proofs.InstructionLemmas.{instr_is_unambiguous}
use Rattle.smith_binary_law.proofs.laws.instructions_are_unambiguous.Goals as goal

pub returns : goal.returns
returns c = instr_is_unambiguous
