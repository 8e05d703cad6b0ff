use Rattle.smith_binary_sections.proofs.Common.{arith, joined_written, length, on_ok_weaker, zip, ◌≡◌}
use Rattle.std.proofs.lemmas.Result.{err_from_is_err_and}
use Rattle.std.proofs.lemmas.Slice.Zip.{length-zip}
use Rattle.smith_binary_sections.proofs.lists.ZippedEncode.encode.Goals as goal

pub returns-in_err-write_length-clause-fault : goal.returns-in_err-write_length-clause-fault
returns-in_err-write_length-clause-fault g c =
    let same : c.min.result ≡ length (zip c.args.self.now.firsts.now c.args.self.now.seconds.now) =
    omega (arith, c.min.ensures, length-zip c.args.self.now.firsts.now c.args.self.now.seconds.now) in
    let handed = err_from_is_err_and c.from_residual.result c.from_residual.ensures.1 in
    rw (handed.1, handed.2) (rw same at c.in_err-write_length.ensures.fault)

pub returns-clause-writes : goal.returns-clause-writes
returns-clause-writes g c =
    let same : c.min.result ≡ length (zip c.args.self.now.firsts.now c.args.self.now.seconds.now) =
    omega (arith, c.min.ensures, length-zip c.args.self.now.firsts.now c.args.self.now.seconds.now) in
    on_ok_weaker c.write_each_pair.result (joined_written (rw same at c.in_ok-write_length.ensures.writes)) c.write_each_pair.ensures.writes
