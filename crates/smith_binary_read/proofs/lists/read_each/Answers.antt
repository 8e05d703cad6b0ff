use Rattle.std.proofs.Common.{List, Ok, ap, sym, ◌∙◌}
use Rattle.std.proofs.lemmas.Result.{err_from_is_err_and}
use Rattle.smith_binary_read.specs.Readings.{each_at}
use Rattle.smith_binary_read.proofs.LoopLemmas.{goes_on, ends, is_done}
use Rattle.smith_binary_read.proofs.lists.read_each.Goals as goal

pub returns-in_err-item : goal.returns-in_err-item
returns-in_err-item g c =
    let p = err_from_is_err_and c.from_residual.result c.from_residual.ensures.1 in
    rw (p.1, p.2) (ends g.T.Decode.reading c.in_err-item.field-0.0 c.loop.items.items c.args.count c.loop.counter c.loop.reader
    (each_at g.T.Decode.reading c.args.count c.args.reader.now) c.loop-test.true c.in_err-item.ensures c.loop.invariant)

pub loop-preserved : goal.loop-preserved
loop-preserved g c =
    rw c.in_ok-push.ensures.items
    (goes_on g.T.Decode.reading c.loop.items.items c.args.count c.loop.counter c.loop.reader c.in_ok-item.item c.decode.new.reader
    (each_at g.T.Decode.reading c.args.count c.args.reader.now) c.loop-test.true c.in_ok-item.ensures c.loop.invariant)

pub returns : goal.returns
returns g c =
    is_done g.T.Decode.reading c.loop.items.items c.args.count c.loop.counter c.loop.reader
    (each_at g.T.Decode.reading c.args.count c.args.reader.now) c.loop-test.false c.loop.invariant
    ∙ ap (λ (xs : List _). Ok (xs, c.loop.reader)) (sym c.from_vec.ensures)
