use Rattle.smith_check_instr.proofs.Common.{bare, held, I32, IsSlotValid, MatchOption, one_in_range, subst, sym}
use Rattle.smith_check_instr.specs.Selects.{IsJoin, HaveNoJoin}
use Rattle.smith_check_instr.proofs.SelectLemmas.{joined, join_keeps, pushed_one, selects, selects_as, select_unindexed}
use Rattle.smith_check_instr.proofs.SelectLemmas.{select_without_second}
use Rattle.smith_check_instr.proofs.SelectLemmas.{select_without_first, select_unjoined}
use Rattle.smith_check_instr.proofs.select.select.Goals as goal

pub pop_all-requires-clause-expected : goal.pop_all-requires-clause-expected
pop_all-requires-clause-expected c = one_in_range c.args.scope.now.types.now.types I32 tt

pub returns-then-not-pop_all-clause-ok : goal.returns-then-not-pop_all-clause-ok
returns-then-not-pop_all-clause-ok c = λ labels set. select_unindexed (bare c.args.scope.now) labels set (held c.args.operands.now)
    c.if-not-pop_all.ensures

pub returns-in_default-clause-ok : goal.returns-in_default-clause-ok
returns-in_default-clause-ok c = λ labels set.
    select_without_second (bare c.args.scope.now) labels set (held c.args.operands.now) (held c.pop_all.new.self) c.if-not-pop_all.ensures
    c.in_default.ensures

pub returns-in_default-pop-clause-ok : goal.returns-in_default-pop-clause-ok
returns-in_default-pop-clause-ok c = λ labels set.
    select_without_first (bare c.args.scope.now) labels set (held c.args.operands.now) (held c.pop_all.new.self) (held c.pop.new.self)
    c.in-Some.second c.if-not-pop_all.ensures c.in-Some.ensures c.in_default-pop.ensures

pub returns-in_default-join-clause-ok : goal.returns-in_default-join-clause-ok
returns-in_default-join-clause-ok c = λ labels set.
    let context = bare c.args.scope.now in
    select_unjoined context labels set (held c.args.operands.now) (held c.pop_all.new.self) (held c.pop.new.self) (held c.pop-2.new.self)
    c.in-Some-pop.first c.in-Some.second
    c.if-not-pop_all.ensures c.in-Some.ensures c.in-Some-pop.ensures
    (subst (λ o. MatchOption o (HaveNoJoin context.types c.in-Some-pop.first c.in-Some.second)
    (λ given. IsJoin context.types c.in-Some-pop.first c.in-Some.second given))
    (sym c.in_default-join.ensures) (joined context.types c.in-Some-pop.first c.in-Some.second))

pub returns-clause-ok : goal.returns-clause-ok
returns-clause-ok c = λ labels set.
    let context = bare c.args.scope.now in
    let first = c.in-Some-pop.first in
    let second = c.in-Some.second in
    let given = c.in-Some-join.given in
    let join = subst (λ o. MatchOption o (HaveNoJoin context.types first second) (λ slot. IsJoin context.types first second slot))
    (sym c.in-Some-join.ensures) (joined context.types first second) in
    let valid = subst (λ o. MatchOption o (Unit {0}) (IsSlotValid context)) (sym c.in-Some-join.ensures)
    (join_keeps (IsSlotValid context) first second c.in-Some-pop.ensures.top_valid c.in-Some.ensures.top_valid) in
    let pushes = pushed_one context c.pop-2.new.self.known.items _ given c.pop-2.new.self.dead c.in-Some-pop.ensures.valid valid
    c.in_ok-push.ensures.items in
    selects_as context labels set (held c.args.operands.now) _
    (selects context (held c.args.operands.now) (held c.pop_all.new.self) (held c.pop.new.self) (held c.pop-2.new.self) _ first second given
    c.if-not-pop_all.ensures c.in-Some.ensures c.in-Some-pop.ensures join pushes)
    pushes.valid
