use Rattle.smith_encode.proofs.Common.{items_view, on_ok_weaker}
use Rattle.smith_encode.specs.Spelled.{are_items_nested}
use Rattle.smith_encode.proofs.ItemLemmas.{passive_exprs_written, declared_exprs_written}
use Rattle.smith_encode.proofs.elements.write_segment.Goals as goal

pub returns-in_ok-write_u32-in-Passive-clause-writes : goal.returns-in_ok-write_u32-in-Passive-clause-writes
returns-in_ok-write_u32-in-Passive-clause-writes c =
    let s = c.args.segment.now in
    rw c.in-Passive.is (on_ok_weaker c.write_typed.result
    (passive_exprs_written s.ty (items_view s.items) (are_items_nested s.items) c.in_ok-write_u32-in-Passive.ensures.writes)
    c.write_typed.ensures.writes)

pub returns-in_ok-write_u32-in-Declared-clause-writes : goal.returns-in_ok-write_u32-in-Declared-clause-writes
returns-in_ok-write_u32-in-Declared-clause-writes c =
    let s = c.args.segment.now in
    rw c.in-Declared.is (on_ok_weaker c.write_typed-in-Declared.result
    (declared_exprs_written s.ty (items_view s.items) (are_items_nested s.items) c.in_ok-write_u32-in-Declared.ensures.writes)
    c.write_typed-in-Declared.ensures.writes)
