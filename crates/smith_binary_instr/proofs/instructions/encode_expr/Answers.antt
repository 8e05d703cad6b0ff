use Rattle.smith_binary_instr.proofs.Common.{joined_written, on_ok_weaker}
use Rattle.smith_binary_instr.proofs.instructions.encode_expr.Goals as goal

pub returns-clause-writes : goal.returns-clause-writes
returns-clause-writes c = on_ok_weaker c.write_byte.result (joined_written c.in_ok-encode_instrs.ensures.writes) c.write_byte.ensures.writes

pub returns-clause-written : goal.returns-clause-written
returns-clause-written c = on_ok_weaker c.write_byte.result (joined_written c.in_ok-encode_instrs.ensures.written)
    c.write_byte.ensures.writes
