use Rattle.smith_binary_sections.proofs.Common.{on_ok_weaker, sym, ◌∙◌}
use Rattle.smith_binary_sections.specs.Instructions.{offset_of}
use Rattle.smith_binary_sections.proofs.FormLemmas.{first_items_written, table_items_written}
use Rattle.smith_binary_sections.proofs.elements.write_active_items.Goals as goal

pub returns-then-is_short-clause-writes : goal.returns-then-is_short-clause-writes
returns-then-is_short-clause-writes c =
    on_ok_weaker c.write_list.result (first_items_written c.args.table (offset_of c.args.offset) c.args.ty c.args.items.now
    (sym c.is_short.ensures ∙ c.if-is_short.true) c.in_ok-write_u32.ensures.writes c.in_ok-encode.ensures.writes)
    c.write_list.ensures.writes

pub returns-clause-writes : goal.returns-clause-writes
returns-clause-writes c =
    on_ok_weaker c.write_list-2.result (table_items_written c.args.table (offset_of c.args.offset) c.args.ty c.args.items.now
    (sym c.is_short.ensures ∙ c.if-is_short.false) c.in_ok-write_u32-2.ensures.writes c.in_ok-write_u32-3.ensures.writes
    c.in_ok-encode-2.ensures.writes c.in_ok-encode-3.ensures.writes) c.write_list-2.ensures.writes
