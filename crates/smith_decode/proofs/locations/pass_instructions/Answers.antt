use Rattle.smith_decode.proofs.Common.{err_from_is_err_and, instr_at}
use Rattle.smith_decode.specs.Locations.{after_each_at}
use Rattle.smith_decode.proofs.LocationLemmas.{pass_goes_on, pass_ends, pass_done}
use Rattle.smith_decode.proofs.locations.pass_instructions.Goals as goal

pub returns-in_err-read_instr : goal.returns-in_err-read_instr
returns-in_err-read_instr c =
    let p = err_from_is_err_and c.from_residual.result c.from_residual.ensures.1 in
    rw (p.1, p.2) (pass_ends instr_at c.in_err-read_instr.field-0.0 c.args.count c.loop.counter c.loop.reader
    (after_each_at instr_at c.args.count c.args.reader.now) c.loop-test.true c.in_err-read_instr.ensures c.loop.invariant)

pub loop-preserved : goal.loop-preserved
loop-preserved c =
    pass_goes_on instr_at c.args.count c.loop.counter c.loop.reader c.in_ok-read_instr.field-0 c.read_instr.new.reader
    (after_each_at instr_at c.args.count c.args.reader.now) c.loop-test.true c.in_ok-read_instr.ensures c.loop.invariant

pub returns : goal.returns
returns c =
    pass_done instr_at c.args.count c.loop.counter c.loop.reader
    (after_each_at instr_at c.args.count c.args.reader.now) c.loop-test.false c.loop.invariant
