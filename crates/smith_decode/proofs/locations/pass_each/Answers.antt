use Rattle.smith_decode.proofs.Common.{err_from_is_err_and}
use Rattle.smith_decode.specs.Locations.{after_each_at}
use Rattle.smith_decode.proofs.LocationLemmas.{pass_goes_on, pass_ends, pass_done}
use Rattle.smith_decode.proofs.locations.pass_each.Goals as goal

pub returns-in_err-decode : goal.returns-in_err-decode
returns-in_err-decode g c =
    let p = err_from_is_err_and c.from_residual.result c.from_residual.ensures.1 in
    rw (p.1, p.2) (pass_ends g.T.Decode.reading c.in_err-decode.field-0.0 c.args.count c.loop.counter c.loop.reader
    (after_each_at g.T.Decode.reading c.args.count c.args.reader.now) c.loop-test.true c.in_err-decode.ensures c.loop.invariant)

pub loop-preserved : goal.loop-preserved
loop-preserved g c =
    pass_goes_on g.T.Decode.reading c.args.count c.loop.counter c.loop.reader c.in_ok-decode.field-0 c.decode.new.reader
    (after_each_at g.T.Decode.reading c.args.count c.args.reader.now) c.loop-test.true c.in_ok-decode.ensures c.loop.invariant

pub returns : goal.returns
returns g c =
    pass_done g.T.Decode.reading c.args.count c.loop.counter c.loop.reader
    (after_each_at g.T.Decode.reading c.args.count c.args.reader.now) c.loop-test.false c.loop.invariant
