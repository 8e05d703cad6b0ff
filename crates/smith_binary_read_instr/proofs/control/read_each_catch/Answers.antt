use Rattle.smith_binary_read_instr.proofs.Common.{ap, each_at, List, Ok, sym, ◌∙◌}
use Rattle.std.proofs.lemmas.Result.{err_from_is_err_and}
use Rattle.smith_binary_read.proofs.LoopLemmas.{goes_on, ends, is_done}
use Rattle.smith_instr.specs.declared.control.Catch.{Catch}
use Rattle.smith_binary_read_instr.specs.ControlReadings.{catch_at}
use Rattle.smith_binary_read_instr.proofs.control.read_each_catch.Goals as goal

pub returns-in_err-item : goal.returns-in_err-item
returns-in_err-item c =
    let p = err_from_is_err_and c.from_residual.result c.from_residual.ensures.1 in
    rw (p.1, p.2) (ends catch_at c.in_err-item.field-0.0 c.loop.items.items c.args.count c.loop.counter c.loop.reader
    (each_at catch_at c.args.count c.args.reader.now) c.loop-test.true c.in_err-item.ensures c.loop.invariant)

pub loop-preserved : goal.loop-preserved
loop-preserved c =
    rw c.in_ok-push.ensures.items
    (goes_on catch_at c.loop.items.items c.args.count c.loop.counter c.loop.reader c.in_ok-item.item c.read_catch.new.reader
    (each_at catch_at c.args.count c.args.reader.now) c.loop-test.true c.in_ok-item.ensures c.loop.invariant)

pub returns : goal.returns
returns c =
    is_done catch_at c.loop.items.items c.args.count c.loop.counter c.loop.reader
    (each_at catch_at c.args.count c.args.reader.now) c.loop-test.false c.loop.invariant
    ∙ ap (λ (xs : List Catch). Ok (xs, c.loop.reader)) (sym c.from_vec.ensures)
