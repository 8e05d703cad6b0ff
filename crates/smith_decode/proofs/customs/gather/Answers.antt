use Rattle.smith_decode.proofs.Common.{[], ap, arith, eq-eqb, err_from_is_err_and, Fault, length, List, ne_eqb, None, Ok, Result, subst}
use Rattle.smith_decode.proofs.Common.{sym, ◌∙◌}
use Rattle.smith_binary_read.specs.Readings.{GivesWhole, at_end}
use Rattle.smith_decode.specs.declared.customs.Custom.{Custom}
use Rattle.smith_decode.specs.CustomReadings.{gathered_at}
use Rattle.smith_decode.proofs.GatherLemmas.{gather_goes_on, gather_stops, gather_ends, gather_done}
use Rattle.smith_decode.proofs.customs.gather.Goals as goal

pub returns-then-left-eq0 : goal.returns-then-left-eq0
returns-then-left-eq0 c =
    gather_stops c.args.most c.loop.counter c.loop.after c.loop.customs.items c.loop.reader
    (gathered_at c.args.most None [] c.args.reader.now) c.loop-test.true
    (eq-eqb (length c.loop.reader) 0 (omega (arith, c.left.ensures, c.if-left-eq0.true))) c.loop.invariant
    ∙ ap (λ (xs : List Custom). Ok xs) (sym c.from_vec.ensures)

pub returns-in_err-after : goal.returns-in_err-after
returns-in_err-after c =
    let p = err_from_is_err_and c.from_residual.result c.from_residual.ensures.1 in
    rw (p.1, p.2) (gather_ends c.in_err-after.field-0.0 c.args.most c.loop.counter c.loop.after c.loop.customs.items c.loop.reader
    (gathered_at c.args.most None [] c.args.reader.now) c.loop-test.true
    (ne_eqb (length c.loop.reader) 0 (λ none. omega (arith, none, c.left.ensures, c.if-left-eq0.false)))
    c.in_err-after.ensures c.loop.invariant)

pub loop-preserved : goal.loop-preserved
loop-preserved c =
    gather_goes_on c.args.most c.loop.counter c.loop.after c.loop.customs.items c.loop.reader c.in_ok-after.after
    c.read_next_section.new.customs.items c.read_next_section.new.reader (gathered_at c.args.most None [] c.args.reader.now)
    c.loop-test.true (ne_eqb (length c.loop.reader) 0 (λ none. omega (arith, none, c.left.ensures, c.if-left-eq0.false)))
    c.in_ok-after.ensures c.loop.invariant

pub returns : goal.returns
returns c =
    let done =
    gather_done c.args.most c.loop.counter c.loop.after c.loop.customs.items c.loop.reader
    (gathered_at c.args.most None [] c.args.reader.now) c.loop-test.false c.loop.invariant in
    subst (λ (r : Result (List Custom) Fault). GivesWhole c.finish.result r) (sym done)
    (subst (λ (xs : List Custom). GivesWhole c.finish.result (at_end xs c.loop.reader)) c.from_vec-2.ensures c.finish.ensures)
