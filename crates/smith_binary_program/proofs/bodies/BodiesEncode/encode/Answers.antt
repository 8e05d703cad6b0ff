use Rattle.smith_binary_program.proofs.Common.{arith, inl, joined_written, length, length-zip, on_ok_weaker, zip, ◌≡◌}
use Rattle.smith_binary_module.proofs.MappedLemmas.{handed_on}
use Rattle.smith_binary_program.proofs.bodies.BodiesEncode.encode.Goals as goal

pub returns-in_err-write_length-clause-fault : goal.returns-in_err-write_length-clause-fault
returns-in_err-write_length-clause-fault c =
    let same : c.min.result ≡ length (zip c.args.self.now.codes.now c.args.self.now.bodies.now) =
    omega (arith, c.min.ensures, length-zip c.args.self.now.codes.now c.args.self.now.bodies.now) in
    handed_on c.from_residual.result c.in_err-write_length.field-0.0 c.from_residual.ensures.1 inl
    (rw same at c.in_err-write_length.ensures.fault)

pub returns-clause-writes : goal.returns-clause-writes
returns-clause-writes c =
    let same : c.min.result ≡ length (zip c.args.self.now.codes.now c.args.self.now.bodies.now) =
    omega (arith, c.min.ensures, length-zip c.args.self.now.codes.now c.args.self.now.bodies.now) in
    on_ok_weaker c.write_each.result (joined_written (rw same at c.in_ok-write_length.ensures.writes)) c.write_each.ensures.writes
