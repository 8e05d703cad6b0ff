use Rattle.smith_binary_read_instr.proofs.InstrLemmas.{instr_decodes}
use Rattle.smith_binary_read_instr.proofs.NestedLemmas.{expr_decodes}
use Rattle.smith_binary_read_instr.proofs.laws.instructions_are_read.Goals as goal

pub returns-clause-instructions : goal.returns-clause-instructions
returns-clause-instructions c = instr_decodes

pub returns-clause-expressions : goal.returns-clause-expressions
returns-clause-expressions c = expr_decodes
