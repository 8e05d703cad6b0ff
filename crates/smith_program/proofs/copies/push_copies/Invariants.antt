use Rattle.smith_program.proofs.Common.{take, ◌++◌, ◌≡◌}
use Rattle.smith_program.proofs.copies.push_copies.Given as goal

abbrev pub invariant-loop-instr : goal.invariant-loop-instr
invariant-loop-instr l = l.made ≡ l.fn.made ++ take l.instr-index l.instructions
