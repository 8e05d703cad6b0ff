use Rattle.smith_encode.proofs.Common.{on_ok_weaker, ◌∷◌}
use Rattle.smith_encode.proofs.TypeLemmas.{full_written}
use Rattle.smith_encode.proofs.types.write_full.Goals as goal

pub returns-clause-writes : goal.returns-clause-writes
returns-clause-writes c =
    on_ok_weaker c.encode.result
    (full_written c.args.ty.now (c.args.first ∷ c.args.further.now) (rw c.final_byte.ensures at c.in_ok-write_byte.ensures.writes)
    c.in_ok-write_supertypes.ensures.writes) c.encode.ensures.writes
