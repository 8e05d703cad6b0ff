use Rattle.smith_encode.proofs.Common.{on_ok_weaker}
use Rattle.smith_encode.proofs.TypeLemmas.{supertypes_written}
use Rattle.smith_encode.proofs.types.write_supertypes.Goals as goal

pub returns-clause-writes : goal.returns-clause-writes
returns-clause-writes c =
    on_ok_weaker c.write_indices.result
    (supertypes_written c.args.first c.args.further.now c.in_ok-write_length.ensures.writes c.in_ok-write_u32.ensures.writes)
    c.write_indices.ensures.writes
