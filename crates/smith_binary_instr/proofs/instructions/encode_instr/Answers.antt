use Rattle.smith_binary_instr.proofs.Common.{on_ok_weaker, written_as}
use Rattle.smith_binary_instr.proofs.FormLemmas.{instr_is}
use Rattle.smith_binary_instr.proofs.instructions.encode_instr.Goals as goal

pub returns-clause-writes : goal.returns-clause-writes
returns-clause-writes c = on_ok_weaker c.write_instr.result (written_as (λ s. instr_is s c.args.instruction.now))
    c.write_instr.ensures.writes
