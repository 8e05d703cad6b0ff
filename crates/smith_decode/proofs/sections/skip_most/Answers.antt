use Rattle.smith_decode.proofs.Common.{err_from_is_err_and, sym}
use Rattle.smith_decode.specs.CustomReadings.{skip_customs}
use Rattle.smith_decode.proofs.SkipLemmas.{skip_goes_on, skip_stops, skip_ends, skip_done}
use Rattle.smith_decode.proofs.sections.skip_most.Goals as goal

pub returns-then-not-starts_with : goal.returns-then-not-starts_with
returns-then-not-starts_with c = skip_stops c.args.most c.loop.counter c.loop.reader
    (skip_customs c.args.most c.args.reader.now) c.loop-test.true (sym c.if-not-starts_with.ensures) c.loop.invariant

pub returns-in_err-read_sized : goal.returns-in_err-read_sized
returns-in_err-read_sized c =
    let p = err_from_is_err_and c.from_residual.result c.from_residual.ensures.1 in
    rw (p.1, p.2) (skip_ends c.in_err-read_sized.field-0.0 c.args.most c.loop.counter c.loop.reader
    (skip_customs c.args.most c.args.reader.now) c.loop-test.true (sym c.if-not-starts_with.ensures)
    (rw c.skip.ensures at c.in_err-read_sized.ensures) c.loop.invariant)

pub loop-preserved : goal.loop-preserved
loop-preserved c = skip_goes_on c.args.most c.loop.counter c.loop.reader tt c.read_sized.new.reader
    (skip_customs c.args.most c.args.reader.now) c.loop-test.true (sym c.if-not-starts_with.ensures)
    (rw c.skip.ensures at c.in_ok-read_sized.ensures) c.loop.invariant

pub returns : goal.returns
returns c =
    skip_done c.args.most c.loop.counter c.loop.reader (skip_customs c.args.most c.args.reader.now) c.loop-test.false c.loop.invariant
