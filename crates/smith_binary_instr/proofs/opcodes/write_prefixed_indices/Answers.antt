use Rattle.smith_binary_instr.proofs.Common.{joined_written, on_ok_weaker}
use Rattle.smith_binary_instr.proofs.opcodes.write_prefixed_indices.Goals as goal

pub returns-clause-writes : goal.returns-clause-writes
returns-clause-writes c = on_ok_weaker c.write_u32-2.result (λ last. joined_written c.in_ok-write_prefixed.ensures.writes
    (joined_written c.in_ok-write_u32.ensures.writes last)) c.write_u32-2.ensures.writes
