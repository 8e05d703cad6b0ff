use Rattle.smith_spell.proofs.Common.{on_ok_weaker}
use Rattle.smith_spell.proofs.WrittenLemmas.{joined_written}
use Rattle.smith_spell.proofs.composite_types.write_storage.Goals as goal

pub returns-in_ok-write_number-in-Val-clause-writes : goal.returns-in_ok-write_number-in-Val-clause-writes
returns-in_ok-write_number-in-Val-clause-writes c =
    rw c.in-Val.is (on_ok_weaker c.write_val_type.result (joined_written c.in_ok-write_number-in-Val.ensures.writes)
    c.write_val_type.ensures.writes)
