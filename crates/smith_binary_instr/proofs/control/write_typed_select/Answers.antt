use Rattle.smith_binary_instr.proofs.Common.{joined_written, on_ok_weaker}
use Rattle.smith_binary_instr.proofs.control.write_typed_select.Goals as goal

pub returns-clause-writes : goal.returns-clause-writes
returns-clause-writes c = on_ok_weaker c.encode.result (λ last. joined_written c.in_ok-write_byte.ensures.writes last)
    c.encode.ensures.writes
