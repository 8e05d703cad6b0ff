use Rattle.smith_spell.proofs.Common.{on_ok_weaker}
use Rattle.smith_spell.proofs.WrittenLemmas.{joined_written}
use Rattle.smith_spell.proofs.composite_types.write_inner.Goals as goal

pub returns-in_ok-write_number-in-Array-clause-writes : goal.returns-in_ok-write_number-in-Array-clause-writes
returns-in_ok-write_number-in-Array-clause-writes c =
    rw c.in-Array.is (on_ok_weaker c.write_field.result (joined_written c.in_ok-write_number-in-Array.ensures.writes)
    c.write_field.ensures.writes)

pub returns-in_ok-write_number-in-Func-clause-writes : goal.returns-in_ok-write_number-in-Func-clause-writes
returns-in_ok-write_number-in-Func-clause-writes c =
    rw c.in-Func.is (on_ok_weaker c.write_func_type.result (joined_written c.in_ok-write_number-in-Func.ensures.writes)
    c.write_func_type.ensures.writes)

pub returns-in_ok-write_number-in-Struct-clause-writes : goal.returns-in_ok-write_number-in-Struct-clause-writes
returns-in_ok-write_number-in-Struct-clause-writes c =
    rw c.in-Struct.is (on_ok_weaker c.write_struct_type.result (joined_written c.in_ok-write_number-in-Struct.ensures.writes)
    c.write_struct_type.ensures.writes)
