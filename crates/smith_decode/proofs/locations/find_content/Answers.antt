use Rattle.smith_decode.proofs.Common.{eq-eqb, err_from_is_err_and, ne_eqb}
use Rattle.smith_decode.specs.Locations.{section_content_at}
use Rattle.smith_decode.proofs.LocationLemmas.{find_goes_on, find_stops, find_fails, find_ends, find_done}
use Rattle.smith_decode.proofs.locations.find_content.Goals as goal

pub returns-in_err-front : goal.returns-in_err-front
returns-in_err-front c =
    let p = err_from_is_err_and c.from_residual.result c.from_residual.ensures.1 in
    rw (p.1, p.2) (find_fails c.in_err-front.field-0.0 c.args.most c.loop.counter c.args.id c.loop.reader
    (section_content_at c.args.most c.args.id c.args.reader.now) c.loop-test.true c.in_err-front.ensures c.loop.invariant)

pub returns-in_err-content : goal.returns-in_err-content
returns-in_err-content c =
    let p = err_from_is_err_and c.from_residual-in_err-content.result c.from_residual-in_err-content.ensures.1 in
    rw (p.1, p.2) (find_ends c.in_err-content.field-0.0 c.args.most c.loop.counter c.args.id c.loop.reader
    c.in_ok-front.front c.read_byte.new.self (section_content_at c.args.most c.args.id c.args.reader.now)
    c.loop-test.true c.in_ok-front.ensures c.in_err-content.ensures c.loop.invariant)

pub returns-then-front-id : goal.returns-then-front-id
returns-then-front-id c =
    find_stops c.args.most c.loop.counter c.args.id c.loop.reader c.in_ok-front.front c.read_byte.new.self
    c.in_ok-content.content.now c.read_content.new.self (section_content_at c.args.most c.args.id c.args.reader.now)
    c.loop-test.true c.in_ok-front.ensures c.in_ok-content.ensures
    (eq-eqb c.in_ok-front.front c.args.id c.if-front-id.true) c.loop.invariant

pub loop-preserved : goal.loop-preserved
loop-preserved c =
    find_goes_on c.args.most c.loop.counter c.args.id c.loop.reader c.in_ok-front.front c.read_byte.new.self
    c.in_ok-content.content.now c.read_content.new.self (section_content_at c.args.most c.args.id c.args.reader.now)
    c.loop-test.true c.in_ok-front.ensures c.in_ok-content.ensures
    (ne_eqb c.in_ok-front.front c.args.id c.if-front-id.false) c.loop.invariant

pub returns : goal.returns
returns c = rw c.fault.ensures (find_done c.args.most c.loop.counter c.args.id c.loop.reader
    (section_content_at c.args.most c.args.id c.args.reader.now) c.loop-test.false c.loop.invariant)
