use Rattle.std.proofs.Common.{drop}
use Rattle.smith_binary.specs.Pieces.{Each}
use Rattle.smith_binary.proofs.WrittenLemmas.{Leads}
use Rattle.smith_binary_instr.specs.Instructions.{IsInstrWrittenIn}
use Rattle.smith_binary_instr.proofs.instructions.encode_instrs.Given as goal

abbrev pub invariant-loop-instruction : goal.invariant-loop-instruction
invariant-loop-instruction l = Leads (λ s. Each (IsInstrWrittenIn s) (drop l.instruction-index l.instructions))
    (λ s. Each (IsInstrWrittenIn s) l.instructions) l.fn.sink l.sink
