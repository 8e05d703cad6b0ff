use Rattle.std.proofs.Common.{◌∙◌, arith}
use Rattle.std.proofs.lemmas.Grind.{common_steps}
use Rattle.smith_binary_read.proofs.ShortLemmas.{eight_read, both_read}
use Rattle.smith_binary_read.proofs.reader.Reader.read_f64.Goals as goal

pub returns-in_err-low : goal.returns-in_err-low
returns-in_err-low c = rw (eight_read c.args.self.now) (grind (arith, common_steps))

pub returns-in_err-high : goal.returns-in_err-high
returns-in_err-high c = rw (eight_read c.args.self.now) (grind (arith, common_steps))

pub returns : goal.returns
returns c = eight_read c.args.self.now
    ∙ both_read 4 _ _ _ c.in_ok-low.low c.in_ok-high.high _ _ c.in_ok-low.ensures c.in_ok-high.ensures (omega arith)
