use Rattle.smith_encode.proofs.Common.{on_ok_weaker, ℕ}
use Rattle.smith_encode.proofs.ModuleLemmas.{some_left}
use Rattle.smith_encode.proofs.TypeLemmas.{several_written}
use Rattle.smith_encode.proofs.types.write_type.Goals as goal

pub returns-in-Some-clause-writes : goal.returns-in-Some-clause-writes
returns-in-Some-clause-writes c =
    on_ok_weaker c.write_full.result
    (several_written c.args.ty.now c.args.further.now c.in-Some.first
    (some_left ℕ c.args.further.now c.is_empty.result c.is_empty.ensures c.if-is_empty.false) c.in-Some.is) c.write_full.ensures.writes
