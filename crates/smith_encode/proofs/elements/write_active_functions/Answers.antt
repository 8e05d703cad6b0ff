use Rattle.smith_encode.proofs.Common.{on_ok_weaker}
use Rattle.smith_encode.proofs.ItemLemmas.{first_functions_written, table_functions_written}
use Rattle.smith_encode.proofs.elements.write_active_functions.Goals as goal

pub returns-then-table-eq0-clause-writes : goal.returns-then-table-eq0-clause-writes
returns-then-table-eq0-clause-writes c = on_ok_weaker c.write_functions.result
    (first_functions_written c.args.table c.args.offset.now c.args.functions.now c.if-table-eq0.true c.in_ok-write_u32.ensures.writes
    c.in_ok-encode_item.ensures.writes) c.write_functions.ensures.writes

pub returns-clause-writes : goal.returns-clause-writes
returns-clause-writes c = on_ok_weaker c.write_kind_functions.result (table_functions_written c.args.table c.args.offset.now
    c.args.functions.now c.in_ok-write_u32-2.ensures.writes c.in_ok-write_u32-3.ensures.writes
    c.in_ok-encode_item-2.ensures.writes) c.write_kind_functions.ensures.writes
