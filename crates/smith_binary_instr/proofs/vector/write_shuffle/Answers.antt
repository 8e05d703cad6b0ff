use Rattle.smith_binary_instr.proofs.Common.{arith, joined_written, on_ok_weaker, written_as}
use Rattle.std.proofs.Common.{length, ◌≡◌}
use Rattle.smith_binary_instr.proofs.vector.write_shuffle.Goals as goal

pub returns-clause-writes : goal.returns-clause-writes
returns-clause-writes c =
    let sixteen : length c.args.lanes ≡ 16 = omega arith in
    on_ok_weaker c.write_bytes.result (λ last. joined_written c.in_ok-write_numbered.ensures.writes
    (written_as (λ s piece h. (sixteen, h)) last)) c.write_bytes.ensures.writes
