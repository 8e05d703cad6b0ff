use Rattle.smith_binary_instr.proofs.Common.{written_as}
use Rattle.smith_binary.proofs.WrittenLemmas.{each_written, leads_each}
use Rattle.smith_binary_instr.specs.Instructions.{IsInstrWrittenIn}
use Rattle.smith_binary_instr.proofs.FormLemmas.{instrs_are}
use Rattle.smith_binary_instr.proofs.instructions.encode_instrs.Goals as goal

pub loop-instruction-preserved : goal.loop-instruction-preserved
loop-instruction-preserved c =
    leads_each IsInstrWrittenIn c.loop-instruction.instruction-index c.args.instructions.now _ _ c.loop-instruction-test.true
    c.instruction-item.is c.loop-instruction.invariant c.in_ok-encode_instr.ensures.written

pub returns-clause-written : goal.returns-clause-written
returns-clause-written c = each_written IsInstrWrittenIn c.loop-instruction.instruction-index c.args.instructions.now
    c.loop-instruction-test.false c.loop-instruction.invariant

pub returns-clause-writes : goal.returns-clause-writes
returns-clause-writes c =
    written_as (λ s. instrs_are s c.args.instructions.now) (each_written IsInstrWrittenIn c.loop-instruction.instruction-index
    c.args.instructions.now c.loop-instruction-test.false c.loop-instruction.invariant)
