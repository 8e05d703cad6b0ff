use Rattle.smith_binary_program.proofs.Common.{arith, length, length-zip, zip, ◌<◌}
use Rattle.std.specs.Prelude.{min}
use Rattle.smith_binary.proofs.WrittenLemmas.{leads_each, each_written}
use Rattle.smith_binary_module.proofs.MappedLemmas.{handed_on}
use Rattle.smith_binary_program.specs.Bodies.{IsBodyOfIn}
use Rattle.smith_binary_program.specs.Long.{IsLongBodyOf}
use Rattle.smith_binary_program.proofs.BodyLemmas.{inside, pair_at, long_at}
use Rattle.smith_binary_program.proofs.bodies.write_each.Goals as goal

pub returns-in_err-write_body-clause-fault : goal.returns-in_err-write_body-clause-fault
returns-in_err-write_body-clause-fault c =
    let within : c.loop-place.place < min (length c.args.codes.now) (length c.args.bodies.now) = omega (arith, c.min-place-end.ensures) in
    handed_on c.from_residual.result c.in_err-write_body.field-0.0 c.from_residual.ensures.1
    (long_at (IsLongBodyOf c.args.counters.now) c.args.codes.now c.args.bodies.now c.loop-place.place c.index-codes-place.result
    c.index-bodies-place.result within c.index-codes-place.is c.index-bodies-place.is)
    c.in_err-write_body.ensures.fault

pub loop-place-preserved : goal.loop-place-preserved
loop-place-preserved c =
    let within : c.loop-place.place < min (length c.args.codes.now) (length c.args.bodies.now) = omega (arith, c.min-place-end.ensures) in
    leads_each (λ s. IsBodyOfIn s c.args.counters.now) c.loop-place.place (zip c.args.codes.now c.args.bodies.now)
    (c.index-codes-place.result, c.index-bodies-place.result) (c.index-codes-place.result, c.index-bodies-place.result)
    (inside c.args.codes.now c.args.bodies.now c.loop-place.place within)
    (pair_at c.args.codes.now c.args.bodies.now c.loop-place.place c.index-codes-place.result c.index-bodies-place.result within
    c.index-codes-place.is c.index-bodies-place.is)
    c.loop-place.invariant c.in_ok-write_body.ensures.writes

pub returns-clause-writes : goal.returns-clause-writes
returns-clause-writes c =
    each_written (λ s. IsBodyOfIn s c.args.counters.now) c.loop-place.place (zip c.args.codes.now c.args.bodies.now)
    (omega (arith, c.min-place-end.ensures, length-zip c.args.codes.now c.args.bodies.now)) c.loop-place.invariant
