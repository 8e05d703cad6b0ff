use Rattle.smith_text.proofs.WrittenLemmas.{bytes_of_string}
use Rattle.smith_text.proofs.sink.FromFmt+String.into_string.Goals as goal

pub returns : goal.returns
returns c = record { has = bytes_of_string c.args.self.writer }
