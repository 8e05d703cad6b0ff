use Rattle.smith_binary_program.proofs.Common.{[], on_ok_weaker, ◌∷◌}
use Rattle.smith_binary_program.proofs.CountedLemmas.{instrs_written, no_loop, one_instr}
use Rattle.smith_binary_program.proofs.fuel_checks.write_checked.Goals as goal

pub returns-in-Loop-clause-writes : goal.returns-in-Loop-clause-writes
returns-in-Loop-clause-writes c =
    rw c.in-Loop.is (on_ok_weaker c.write_checks.result
    (instrs_written (_ ∷ []) _ (rw c.in-Loop.is at (one_instr _ c.in_ok-encode_instr.ensures.written))) c.write_checks.ensures.writes)

pub returns-in_default-clause-writes : goal.returns-in_default-clause-writes
returns-in_default-clause-writes c = rw (no_loop c.args.counters.now c.args.instruction.now c.in_default.not-Loop)
    (one_instr _ c.in_ok-encode_instr.ensures.written)
