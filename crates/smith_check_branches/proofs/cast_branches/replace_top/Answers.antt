use Rattle.smith_check_branches.proofs.Common.{[], all_in_range, Applies, bare, held, MatchBool, one_in_range, PopsNothing, subst, Value}
use Rattle.smith_check_branches.proofs.Common.{values, ◌++◌, ◌∷◌}
use Rattle.smith_check_instr.proofs.SelectLemmas.{pushed_one}
use Rattle.smith_check_branches.proofs.ResultLemmas.{replaced}
use Rattle.smith_check_branches.proofs.cast_branches.replace_top.Goals as goal

pub apply_below-requires-clause-expected : goal.apply_below-requires-clause-expected
apply_below-requires-clause-expected c = all_in_range (bare c.args.scope.now) c.args.others.now c.requires.others

pub apply_below-requires-clause-expected_top : goal.apply_below-requires-clause-expected_top
apply_below-requires-clause-expected_top c = one_in_range c.args.scope.now.types.now.types c.args.top c.requires.top

pub returns-then-not-there-clause-ok : goal.returns-then-not-there-clause-ok
returns-then-not-there-clause-ok c =
    let context = bare c.args.scope.now in
    let operands = values (c.args.others.now ++ c.args.top ∷ []) in
    subst (λ b. MatchBool b (Applies context operands (values c.args.others.now) (held c.args.operands.now) (held c.apply_below.new.self))
    (PopsNothing context operands (held c.args.operands.now))) c.if-not-there.true c.in_ok-there.ensures.ok

pub returns-clause-ok : goal.returns-clause-ok
returns-clause-ok c =
    let context = bare c.args.scope.now in
    let operands = values (c.args.others.now ++ c.args.top ∷ []) in
    let middle = held c.apply_below.new.self in
    let applies = subst (λ b. MatchBool b (Applies context operands (values c.args.others.now) (held c.args.operands.now) middle)
    (PopsNothing context operands (held c.args.operands.now))) c.if-not-there.false c.in_ok-there.ensures.ok in
    replaced context c.args.others.now c.args.top c.args.given (held c.args.operands.now) middle _ applies
    (pushed_one context c.apply_below.new.self.known.items _ (Value c.args.given) c.apply_below.new.self.dead applies.valid
    c.requires.given c.in_ok-push.ensures.items)
