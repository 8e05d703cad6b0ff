use Rattle.std.proofs.Common.{arith}
use Rattle.std.proofs.lemmas.List.{take_rest}
use Rattle.smith_bytes.proofs.TextFrontLemmas.{valid_len_by_rest}
use Rattle.smith_bytes.proofs.text.reach.Goals as goal

pub returns-clause-most : goal.returns-clause-most
returns-clause-most c =
    let last = c.last_start-last in
    let size = rw take_rest at c.narrow_front.ensures.size in
    let most = valid_len_by_rest c.args.bytes.now last.result last.ensures.within last.ensures.start in
    omega arith
