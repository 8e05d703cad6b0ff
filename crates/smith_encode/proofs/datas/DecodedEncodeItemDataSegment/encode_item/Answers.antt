use Rattle.smith_encode.proofs.Common.{on_ok_weaker}
use Rattle.smith_encode.proofs.ItemLemmas.{no_memory_written}
use Rattle.smith_encode.proofs.datas.DecodedEncodeItemDataSegment.encode_item.Goals as goal

pub returns-in_ok-write_u32-in-Passive-clause-writes : goal.returns-in_ok-write_u32-in-Passive-clause-writes
returns-in_ok-write_u32-in-Passive-clause-writes c =
    rw c.in-Passive.is (on_ok_weaker c.write_byte_list.result
    (no_memory_written c.args.item.now.bytes c.in_ok-write_u32-in-Passive.ensures.writes)
    (rw c.as_slice-bytes.ensures at c.write_byte_list.ensures.writes))
