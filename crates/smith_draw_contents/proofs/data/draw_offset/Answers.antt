use Rattle.smith_draw_contents.proofs.Common.{arith, length, ◌-◌, ◌<◌}
use Rattle.smith_draw_contents.proofs.data.draw_offset.Goals as goal

pub returns-then-place-eq0-clause-valid : goal.returns-then-place-eq0-clause-valid
returns-then-place-eq0-clause-valid c = λ context tell. c.draw_constant.ensures.valid context

pub returns-clause-valid : goal.returns-clause-valid
returns-clause-valid c = λ context tell.
    let inside : c.int_in_range-place.result - 1 < length c.args.globals.now =
    omega (arith, c.int_in_range-place.ensures.within, c.new.ensures.end, c.len.ensures, c.if-place-eq0.false) in
    rw c.at.ensures (tell (c.int_in_range-place.result - 1) 0 inside)
