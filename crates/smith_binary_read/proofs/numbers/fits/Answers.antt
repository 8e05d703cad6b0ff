use Rattle.std.proofs.Common.{sym, ◌∙◌, ◌^◌}
use Rattle.std.proofs.lemmas.Bool.{lt-ltb, le-leb}
use Rattle.smith_binary_read.proofs.IntegerLemmas.{seven_fit}
use Rattle.smith_binary_read.proofs.numbers.fits.Goals as goal

pub returns-then-bits-ge7 : goal.returns-then-bits-ge7
returns-then-bits-ge7 c = le-leb 7 c.args.bits c.if-bits-ge7.true
    ∙ sym (lt-ltb c.args.byte (2 ^ c.args.bits) (seven_fit c.args.byte c.args.bits c.requires c.if-bits-ge7.true))
