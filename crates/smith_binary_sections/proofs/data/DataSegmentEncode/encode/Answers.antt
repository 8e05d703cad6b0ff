use Rattle.smith_binary_sections.proofs.Common.{on_ok_weaker}
use Rattle.smith_binary_sections.proofs.FormLemmas.{no_memory_written}
use Rattle.smith_binary_sections.proofs.data.DataSegmentEncode.encode.Goals as goal

pub returns-in_ok-write_u32-in-Passive-clause-writes : goal.returns-in_ok-write_u32-in-Passive-clause-writes
returns-in_ok-write_u32-in-Passive-clause-writes c = rw (c.in-Passive.is, ← c.as_slice-bytes.ensures)
    (on_ok_weaker c.write_byte_list.result (no_memory_written c.as_slice-bytes.result.now c.in_ok-write_u32-in-Passive.ensures.writes)
    c.write_byte_list.ensures.writes)
