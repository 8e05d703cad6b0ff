use Rattle.smith_encode.proofs.Common.{items_view, on_ok_weaker, ◌∙◌}
use Rattle.smith_encode.specs.Spelled.{are_items_nested}
use Rattle.smith_encode.proofs.ItemLemmas.{first_exprs_written, table_exprs_written}
use Rattle.smith_encode.proofs.elements.write_active_exprs.Goals as goal

pub returns-then-is_same-clause-writes : goal.returns-then-is_same-clause-writes
returns-then-is_same-clause-writes c =
    on_ok_weaker c.write_exprs.result
    (first_exprs_written c.args.table c.args.offset.now c.args.ty (items_view c.args.items.now) (are_items_nested c.args.items.now)
    c.if-table-eq0.true (c.is_same.ensures.0 c.if-is_same.true ∙ c.func_ref.ensures) c.in_ok-write_u32.ensures.writes
    c.in_ok-encode_item.ensures.writes) c.write_exprs.ensures.writes

pub returns-clause-writes : goal.returns-clause-writes
returns-clause-writes c =
    on_ok_weaker c.write_typed.result
    (table_exprs_written c.args.table c.args.offset.now c.args.ty (items_view c.args.items.now) (are_items_nested c.args.items.now)
    c.in_ok-write_u32-2.ensures.writes c.in_ok-write_u32-3.ensures.writes c.in_ok-encode_item-2.ensures.writes)
    c.write_typed.ensures.writes
