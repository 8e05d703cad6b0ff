use Rattle.smith_encode.proofs.Common.{on_ok_weaker}
use Rattle.smith_encode.proofs.ItemLemmas.{passive_functions_written, declared_functions_written}
use Rattle.smith_encode.proofs.elements.write_listed.Goals as goal

pub returns-in_ok-write_u32-in-Passive-clause-writes : goal.returns-in_ok-write_u32-in-Passive-clause-writes
returns-in_ok-write_u32-in-Passive-clause-writes c =
    rw c.in-Passive.is (on_ok_weaker c.write_kind_functions.result
    (passive_functions_written c.args.functions.now c.in_ok-write_u32-in-Passive.ensures.writes) c.write_kind_functions.ensures.writes)

pub returns-in_ok-write_u32-in-Declared-clause-writes : goal.returns-in_ok-write_u32-in-Declared-clause-writes
returns-in_ok-write_u32-in-Declared-clause-writes c =
    rw c.in-Declared.is (on_ok_weaker c.write_kind_functions-in-Declared.result
    (declared_functions_written c.args.functions.now c.in_ok-write_u32-in-Declared.ensures.writes)
    c.write_kind_functions-in-Declared.ensures.writes)
