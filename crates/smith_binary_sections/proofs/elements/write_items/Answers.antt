use Rattle.smith_binary_sections.proofs.Common.{on_ok_weaker}
use Rattle.smith_binary_sections.proofs.FormLemmas.{passive_items_written, declared_items_written}
use Rattle.smith_binary_sections.proofs.elements.write_items.Goals as goal

pub returns-in_ok-encode-in-Passive-clause-writes : goal.returns-in_ok-encode-in-Passive-clause-writes
returns-in_ok-encode-in-Passive-clause-writes c =
    rw c.in-Passive.is (on_ok_weaker c.write_list.result
    (passive_items_written c.args.ty c.args.items.now c.in_ok-write_u32-in-Passive.ensures.writes c.in_ok-encode-in-Passive.ensures.writes)
    c.write_list.ensures.writes)

pub returns-in_ok-encode-in-Declared-clause-writes : goal.returns-in_ok-encode-in-Declared-clause-writes
returns-in_ok-encode-in-Declared-clause-writes c =
    rw c.in-Declared.is (on_ok_weaker c.write_list-in-Declared.result
    (declared_items_written c.args.ty c.args.items.now c.in_ok-write_u32-in-Declared.ensures.writes
    c.in_ok-encode-in-Declared.ensures.writes) c.write_list-in-Declared.ensures.writes)
