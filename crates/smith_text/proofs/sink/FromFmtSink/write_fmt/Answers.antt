use Rattle.std.proofs.lemmas.Result.{on_ok_weaker}
use Rattle.smith_text.proofs.WrittenLemmas.{written_text}
use Rattle.smith_text.proofs.sink.FromFmtSink.write_fmt.Goals as goal

pub returns-clause-writes : goal.returns-clause-writes
returns-clause-writes g c = on_ok_weaker c.write_fmt-written.result (written_text g.W.Write.write_str_gives c.args.self.now.writer
    (g.D.Display.output c.args.text) c.write_fmt-written.new.self) c.write_fmt-written.ensures.writes
