use Rattle.smith_check_body.proofs.Common.{[], bare, held, ◌∷◌}
use Rattle.smith_types.specs.Syntax.value_type.ValType.TheVariants.{I32}
use Rattle.smith_check_operands.proofs.RangeLemmas.{all_in_range, one_in_range}
use Rattle.smith_check_operands.proofs.StepLemmas.{popped_below, nothing_above_values}
use Rattle.smith_check_body.proofs.blocks.pop_for.Goals as goal

pub returns-then-pop_all : goal.returns-then-pop_all
returns-then-pop_all c =
    rw c.in-If.is (popped_below (bare c.args.scope.now) c.args.params.now (I32 ∷ []) (held c.args.operands.now) (held c.pop_all.new.self)
    (held c.pop_all-then-pop_all.new.self)
    c.pop_all-then-pop_all.result c.if-pop_all.ensures c.pop_all-then-pop_all.ensures)

pub returns-else-pop_all : goal.returns-else-pop_all
returns-else-pop_all c =
    rw c.if-pop_all.false
    (rw c.in-If.is (nothing_above_values (bare c.args.scope.now) c.args.params.now (I32 ∷ []) (held c.args.operands.now)
    c.if-pop_all.ensures))

pub returns-in-Block : goal.returns-in-Block
returns-in-Block c = rw c.in-Block.is c.pop_all-in-Block.ensures

pub returns-in-Loop : goal.returns-in-Loop
returns-in-Loop c = rw c.in-Loop.is c.pop_all-in-Loop.ensures

pub pop_all-requires-clause-expected : goal.pop_all-requires-clause-expected
pop_all-requires-clause-expected c = one_in_range c.args.scope.now.types.now.types I32 tt

pub pop_all-requires-then-pop_all-clause-expected : goal.pop_all-requires-then-pop_all-clause-expected
pop_all-requires-then-pop_all-clause-expected c = all_in_range (bare c.args.scope.now) c.args.params.now c.requires.params

pub pop_all-requires-in-Block-clause-expected : goal.pop_all-requires-in-Block-clause-expected
pop_all-requires-in-Block-clause-expected c = all_in_range (bare c.args.scope.now) c.args.params.now c.requires.params

pub pop_all-requires-in-Loop-clause-expected : goal.pop_all-requires-in-Loop-clause-expected
pop_all-requires-in-Loop-clause-expected c = all_in_range (bare c.args.scope.now) c.args.params.now c.requires.params
