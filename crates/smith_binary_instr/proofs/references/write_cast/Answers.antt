use Rattle.smith_binary_instr.proofs.Common.{joined_written, on_ok_weaker}
use Rattle.smith_binary_instr.proofs.references.write_cast.Goals as goal

pub returns-clause-writes : goal.returns-clause-writes
returns-clause-writes c = on_ok_weaker c.encode.result (joined_written (rw c.cast_number.ensures at c.in_ok-write_prefixed.ensures.writes))
    c.encode.ensures.writes
