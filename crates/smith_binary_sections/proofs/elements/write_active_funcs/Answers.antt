use Rattle.smith_binary_sections.proofs.Common.{on_ok_weaker}
use Rattle.smith_binary_sections.specs.Instructions.{offset_of}
use Rattle.smith_binary_sections.proofs.FormLemmas.{first_funcs_written, table_funcs_written}
use Rattle.smith_binary_sections.proofs.elements.write_active_funcs.Goals as goal

pub returns-then-table-eq0-clause-writes : goal.returns-then-table-eq0-clause-writes
returns-then-table-eq0-clause-writes c =
    on_ok_weaker c.write_list.result (first_funcs_written c.args.table (offset_of c.args.offset) c.args.funcs.now c.if-table-eq0.true
    c.in_ok-write_u32.ensures.writes c.in_ok-encode.ensures.writes) c.write_list.ensures.writes

pub returns-clause-writes : goal.returns-clause-writes
returns-clause-writes c = on_ok_weaker c.write_kind_funcs.result
    (table_funcs_written c.args.table (offset_of c.args.offset) c.args.funcs.now c.if-table-eq0.false c.in_ok-write_u32-2.ensures.writes
    c.in_ok-write_u32-3.ensures.writes c.in_ok-encode-2.ensures.writes) c.write_kind_funcs.ensures.writes
