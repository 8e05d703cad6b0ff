use Rattle.std.proofs.Common.{◌≡◌, arith}
use Rattle.smith_binary_read.proofs.ShortLemmas.{unsigned_short}
use Rattle.smith_binary_read.proofs.reader.Reader.read_u64.Goals as goal

pub returns-in-Some : goal.returns-in-Some
returns-in-Some c =
    let same : c.from.result ≡ c.in-Some.byte = omega arith in
    unsigned_short 64 c.in-Some.byte c.from.result _ _ (omega arith) c.in-Some.ensures.0 c.in-Some.ensures.1 same
