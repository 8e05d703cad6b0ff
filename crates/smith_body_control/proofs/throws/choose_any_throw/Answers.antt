use Rattle.smith_body_control.proofs.Common.{arith, ok_by, ok_like, where_stands, ◌≡◌}
use Rattle.smith_body_control.proofs.ThrowLemmas.{any_throw_by_reference, any_throw_tagged}
use Rattle.smith_body_control.proofs.throws.choose_any_throw.Goals as goal

pub returns-then-number-lt7-clause-exact : goal.returns-then-number-lt7-clause-exact
returns-then-number-lt7-clause-exact c =
    let context = where_stands c.args.scope.now c.args.draft.now in
    let drawn = rw (c.new.ensures.start, c.new.ensures.end) at c.int_in_range-number.ensures.exact in
    let thrown = any_throw_tagged context c.args.u.now _ c.int_in_range-number.result drawn (omega (arith, c.if-number-lt7.true)) in
    ok_by c.choose_throw.result _ _ _ thrown c.choose_throw.ensures.exact

pub returns-clause-exact : goal.returns-clause-exact
returns-clause-exact c =
    let context = where_stands c.args.scope.now c.args.draft.now in
    let is : c.int_in_range-number.result ≡ 7 =
    omega (arith, c.int_in_range-number.ensures.within, c.new.ensures.start, c.new.ensures.end, c.if-number-lt7.false) in
    let drawn = rw (c.new.ensures.start, c.new.ensures.end, is) at c.int_in_range-number.ensures.exact in
    ok_like _ c.choose_throw_ref.result (any_throw_by_reference context c.args.u.now _ drawn) c.choose_throw_ref.ensures.exact
