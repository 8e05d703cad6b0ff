use Rattle.smith_binary_sections.proofs.Common.{on_ok_weaker}
use Rattle.smith_binary_sections.proofs.FormLemmas.{passive_funcs_written, declared_funcs_written}
use Rattle.smith_binary_sections.proofs.elements.write_funcs.Goals as goal

pub returns-in_ok-write_u32-in-Passive-clause-writes : goal.returns-in_ok-write_u32-in-Passive-clause-writes
returns-in_ok-write_u32-in-Passive-clause-writes c =
    rw c.in-Passive.is (on_ok_weaker c.write_kind_funcs.result
    (passive_funcs_written c.args.funcs.now c.in_ok-write_u32-in-Passive.ensures.writes) c.write_kind_funcs.ensures.writes)

pub returns-in_ok-write_u32-in-Declared-clause-writes : goal.returns-in_ok-write_u32-in-Declared-clause-writes
returns-in_ok-write_u32-in-Declared-clause-writes c =
    rw c.in-Declared.is (on_ok_weaker c.write_kind_funcs-in-Declared.result
    (declared_funcs_written c.args.funcs.now c.in_ok-write_u32-in-Declared.ensures.writes) c.write_kind_funcs-in-Declared.ensures.writes)
