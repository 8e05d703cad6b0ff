use Rattle.smith_check_branches.proofs.Common.{[], bare, held, one_in_range, ◌∷◌}
use Rattle.smith_check_operands.proofs.StepLemmas.{nothing_above_values}
use Rattle.smith_check_branches.proofs.CallLemmas.{left_below}
use Rattle.smith_check_branches.proofs.tail_calls.leave_below.Goals as goal

pub pop_all-requires-clause-expected : goal.pop_all-requires-clause-expected
pop_all-requires-clause-expected c = one_in_range c.args.scope.now.types.now.types c.args.top c.requires.expected_top

pub returns-then-pop_all : goal.returns-then-pop_all
returns-then-pop_all c =
    left_below (bare c.args.scope.now) c.args.taken.now c.args.top (held c.args.operands.now) (held c.pop_all.new.self)
    (held c.leave_with.new.self) c.leave_with.result c.if-pop_all.ensures c.leave_with.ensures

pub returns-else-pop_all : goal.returns-else-pop_all
returns-else-pop_all c =
    rw c.if-pop_all.false
    (nothing_above_values (bare c.args.scope.now) c.args.taken.now (c.args.top ∷ []) (held c.args.operands.now) c.if-pop_all.ensures)
