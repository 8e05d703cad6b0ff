use Rattle.smith_binary_sections.proofs.Common.{on_ok_weaker}
use Rattle.smith_binary_sections.specs.Instructions.{offset_of}
use Rattle.smith_binary_sections.proofs.FormLemmas.{first_memory_written, named_memory_written}
use Rattle.smith_binary_sections.proofs.data.write_active_data.Goals as goal

pub returns-then-memory-eq0-clause-writes : goal.returns-then-memory-eq0-clause-writes
returns-then-memory-eq0-clause-writes c = on_ok_weaker c.write_byte_list.result
    (first_memory_written c.args.memory (offset_of c.args.offset) c.args.bytes.now c.if-memory-eq0.true c.in_ok-write_u32.ensures.writes
    c.in_ok-encode.ensures.writes) c.write_byte_list.ensures.writes

pub returns-clause-writes : goal.returns-clause-writes
returns-clause-writes c = on_ok_weaker c.write_byte_list-2.result (named_memory_written c.args.memory (offset_of c.args.offset)
    c.args.bytes.now c.if-memory-eq0.false c.in_ok-write_u32-2.ensures.writes c.in_ok-write_u32-3.ensures.writes
    c.in_ok-encode-2.ensures.writes) c.write_byte_list-2.ensures.writes
