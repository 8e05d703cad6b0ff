use Rattle.smith_encode.proofs.Common.{on_ok_weaker}
use Rattle.smith_encode.proofs.ItemLemmas.{first_memory_written, named_memory_written}
use Rattle.smith_encode.proofs.datas.write_active.Goals as goal

pub returns-then-memory-eq0-clause-writes : goal.returns-then-memory-eq0-clause-writes
returns-then-memory-eq0-clause-writes c = on_ok_weaker c.write_byte_list.result
    (first_memory_written c.args.memory c.args.offset.now c.args.bytes.now c.if-memory-eq0.true c.in_ok-write_u32.ensures.writes
    c.in_ok-encode_item.ensures.writes) c.write_byte_list.ensures.writes

pub returns-clause-writes : goal.returns-clause-writes
returns-clause-writes c = on_ok_weaker c.write_byte_list-2.result (named_memory_written c.args.memory c.args.offset.now
    c.args.bytes.now c.in_ok-write_u32-2.ensures.writes c.in_ok-write_u32-3.ensures.writes
    c.in_ok-encode_item-2.ensures.writes) c.write_byte_list-2.ensures.writes
