use Rattle.smith_body_nodes.specs.Scopes.{where_stands}
use Rattle.std.proofs.Common.{◌≡◌, arith}
use Rattle.smith_body_calls.proofs.CallLemmas.{tail_call_by_reference, tail_call_direct, tail_call_indirect}
use Rattle.smith_body_nodes.proofs.ChosenLemmas.{ok_by}
use Rattle.smith_body_calls.proofs.tail_calls.choose_tail_call.Goals as goal

pub returns-then-kind-eq0-clause-exact : goal.returns-then-kind-eq0-clause-exact
returns-then-kind-eq0-clause-exact c =
    let is : c.int_in_range-kind.result ≡ 0 = omega (arith, c.if-kind-eq0.true) in
    let drawn = rw (c.new.ensures.start, c.new.ensures.end, is) at c.int_in_range-kind.ensures.exact in
    ok_by c.choose_return_call.result _ _ _ (tail_call_direct (where_stands c.args.scope.now c.args.draft.now) c.args.u.now _ drawn)
    c.choose_return_call.ensures.exact

pub returns-then-kind-eq1-clause-exact : goal.returns-then-kind-eq1-clause-exact
returns-then-kind-eq1-clause-exact c =
    let is : c.int_in_range-kind.result ≡ 1 = omega (arith, c.if-kind-eq1.true) in
    let drawn = rw (c.new.ensures.start, c.new.ensures.end, is) at c.int_in_range-kind.ensures.exact in
    ok_by c.choose_indirect.result _ _ _ (tail_call_indirect (where_stands c.args.scope.now c.args.draft.now) c.args.u.now _ drawn)
    c.choose_indirect.ensures.exact

pub returns-clause-exact : goal.returns-clause-exact
returns-clause-exact c =
    let is : c.int_in_range-kind.result ≡ 2 = omega (
      arith,
      c.int_in_range-kind.ensures.within,
      c.new.ensures.start,
      c.new.ensures.end,
      c.if-kind-eq0.false,
      c.if-kind-eq1.false,
    ) in
    let drawn = rw (c.new.ensures.start, c.new.ensures.end, is) at c.int_in_range-kind.ensures.exact in
    ok_by c.choose_by_reference.result _ _ _ (tail_call_by_reference (where_stands c.args.scope.now c.args.draft.now) c.args.u.now _ drawn)
    c.choose_by_reference.ensures.exact
