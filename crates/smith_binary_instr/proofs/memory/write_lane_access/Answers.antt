use Rattle.smith_binary_instr.proofs.Common.{arith, joined_written, on_ok_weaker, written_as, ◌<◌}
use Rattle.smith_binary_instr.proofs.memory.write_lane_access.Goals as goal

pub returns-clause-writes : goal.returns-clause-writes
returns-clause-writes c =
    let small : c.args.log2_bytes < 4 = omega arith in
    on_ok_weaker c.write_byte.result (λ last. written_as (λ s piece h. (small, h)) (joined_written c.in_ok-write_prefixed.ensures.writes
    (joined_written c.in_ok-write_mem_arg.ensures.writes last))) c.write_byte.ensures.writes
