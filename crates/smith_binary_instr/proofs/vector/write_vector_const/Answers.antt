use Rattle.std.specs.Int.{w128}
use Rattle.std.proofs.lemmas.Int.{to_z-of_z}
use Rattle.smith_binary_instr.proofs.Common.{joined_written, on_ok_weaker}
use Rattle.smith_binary_instr.proofs.vector.write_vector_const.Goals as goal

pub returns-clause-writes : goal.returns-clause-writes
returns-clause-writes c =
    on_ok_weaker c.write_vector.result (joined_written c.in_ok-write_numbered.ensures.writes)
    (rw (to_z-of_z w128 c.args.value c.ranges.value) at c.write_vector.ensures.writes)
