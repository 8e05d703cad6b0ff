use Rattle.smith_body.proofs.Common.{arith, sym, where_stands, ◌∙◌, ◌≡◌}
use Rattle.smith_body.proofs.RepeatLemmas.{may_loop, repeat_barred, repeat_no, repeat_yes}
use Rattle.smith_body.proofs.repeats.draw_repeat.Goals as goal

pub returns-then-not-may_repeat-clause-exact : goal.returns-then-not-may_repeat-clause-exact
returns-then-not-may_repeat-clause-exact c =
    repeat_barred c.args.scope.now.config.now (where_stands c.args.scope.now c.args.draft.now) c.args.opening c.args.sides.now.params
    c.args.draft.now.budget c.args.u.now (sym c.may_repeat.ensures ∙ c.if-not-may_repeat.true)

pub returns-then-number-eq0-clause-exact : goal.returns-then-number-eq0-clause-exact
returns-then-number-eq0-clause-exact c =
    let none : c.int_in_range-number.result ≡ 0 = omega (arith, c.if-number-eq0.true) in
    repeat_no c.args.scope.now.config.now (where_stands c.args.scope.now c.args.draft.now) c.args.opening c.args.sides.now.params
    c.args.draft.now.budget c.args.u.now _ (sym c.may_repeat.ensures ∙ c.if-not-may_repeat.false) (rw (
      c.new.ensures.start,
      c.new.ensures.end,
      none,
    ) at c.int_in_range-number.ensures.exact)

pub returns-clause-exact : goal.returns-clause-exact
returns-clause-exact c =
    repeat_yes c.args.scope.now.config.now (where_stands c.args.scope.now c.args.draft.now) c.args.opening c.args.sides.now.params
    c.args.draft.now.budget c.int_in_range-number.result c.args.u.now _ _ c.draw_way.result (sym c.may_repeat.ensures
    ∙ c.if-not-may_repeat.false) (rw (c.new.ensures.start, c.new.ensures.end) at c.int_in_range-number.ensures.exact) (omega (
      arith,
      c.if-number-eq0.false,
    )) c.draw_way.ensures.exact

pub returns-clause-may : goal.returns-clause-may
returns-clause-may c =
    let (loop, none, paid) = may_loop c.args.opening c.args.sides.now.params c.args.draft.now.budget (sym c.may_repeat.ensures
    ∙ c.if-not-may_repeat.false) in
    record { loop = loop; none = none; paid = paid; counts = c.draw_way.ensures.counts }
