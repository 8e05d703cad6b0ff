use Rattle.std.proofs.Common.{ap, arith, get_or, sym, ◌<◌, ◌∙◌}
use Rattle.smith_binary_read.specs.Numbers.{little_endian_at}
use Rattle.smith_binary_read.proofs.ShortLemmas.{four_read}
use Rattle.smith_binary_read.proofs.reader.Reader.read_f32.Goals as goal

pub returns-in-len4-up : goal.returns-in-len4-up
returns-in-len4-up c =
    let bytes = c.self.inside.rest.now in
    let in_a : get_or bytes 0 0 < 256 = omega arith in
    let in_b : get_or bytes 1 0 < 256 = omega arith in
    let in_c : get_or bytes 2 0 < 256 = omega arith in
    let in_d : get_or bytes 3 0 < 256 = omega arith in
    ap (little_endian_at 4) (sym c.self.view_is)
    ∙ four_read bytes c.number_of.result c.in-len4-up.len_at_least in_a in_b in_c in_d c.number_of.ensures
