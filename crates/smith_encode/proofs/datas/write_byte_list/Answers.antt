use Rattle.smith_encode.proofs.Common.{on_ok_weaker, written_plain}
use Rattle.smith_binary.proofs.WrittenLemmas.{bytes_written}
use Rattle.smith_encode.proofs.datas.write_byte_list.Goals as goal

pub returns-clause-writes : goal.returns-clause-writes
returns-clause-writes c =
    on_ok_weaker c.write_bytes.result
    (λ last. written_plain (λ piece h. h) (bytes_written c.args.bytes.now c.in_ok-write_length.ensures.writes last))
    c.write_bytes.ensures.writes
