use Rattle.smith_binary_sections.proofs.Common.{on_ok_weaker}
use Rattle.smith_binary.proofs.WrittenLemmas.{bytes_written}
use Rattle.smith_binary_sections.proofs.data.write_byte_list.Goals as goal

pub returns-clause-writes : goal.returns-clause-writes
returns-clause-writes c = on_ok_weaker c.write_bytes.result (bytes_written c.args.bytes.now c.in_ok-write_length.ensures.writes)
    c.write_bytes.ensures.writes
