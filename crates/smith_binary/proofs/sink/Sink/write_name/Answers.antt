use Rattle.std.proofs.lemmas.Result.{on_ok_weaker}
use Rattle.smith_binary.proofs.WrittenLemmas.{name_written}
use Rattle.smith_binary.proofs.sink.Sink.write_name.Goals as goal

pub returns-clause-writes : goal.returns-clause-writes
returns-clause-writes c = on_ok_weaker c.write_bytes.result (name_written c.args.text.now c.utf8.text c.in_ok-write_length.ensures.writes)
    (rw c.as_bytes.ensures.value at c.write_bytes.ensures.writes)
