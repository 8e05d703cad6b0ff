use Rattle.smith_check_branches.proofs.Common.{bare, label_of, labels_of, reverse, ◌∷◌}
use Rattle.smith_check_operands.proofs.RangeLemmas.{no_range}
use Rattle.smith_check_branches.proofs.CatchLemmas.{tag_in_range, exception_in_range, one_caught, reference_caught, any_reference_caught}
use Rattle.smith_check_branches.proofs.CatchLemmas.{one_unknown, reference_unknown}
use Rattle.smith_check_branches.proofs.catches.is_catch.Goals as goal

pub may_take-requires-clause-lower : goal.may_take-requires-clause-lower
may_take-requires-clause-lower c =
    tag_in_range (bare c.args.scope.now) c.in-One.tag c.in-Some.values.now c.requires.scope c.in-Some.ensures

pub may_take-requires-clause-upper : goal.may_take-requires-clause-upper
may_take-requires-clause-upper c = no_range c.args.scope.now.types.now.types

pub may_take-requires-in-Some-tag_values-clause-lower : goal.may_take-requires-in-Some-tag_values-clause-lower
may_take-requires-in-Some-tag_values-clause-lower c =
    tag_in_range (bare c.args.scope.now) c.in-OneRef.tag c.in-Some-tag_values.values.now c.requires.scope c.in-Some-tag_values.ensures

pub may_take-requires-in-Some-tag_values-clause-upper : goal.may_take-requires-in-Some-tag_values-clause-upper
may_take-requires-in-Some-tag_values-clause-upper c =
    exception_in_range c.args.scope.now.types.now.types c.exception.result c.exception.ensures

pub may_take-requires-in-All-clause-lower : goal.may_take-requires-in-All-clause-lower
may_take-requires-in-All-clause-lower c = no_range c.args.scope.now.types.now.types

pub may_take-requires-in-All-clause-upper : goal.may_take-requires-in-All-clause-upper
may_take-requires-in-All-clause-upper c = no_range c.args.scope.now.types.now.types

pub may_take-requires-in-AllRef-clause-lower : goal.may_take-requires-in-AllRef-clause-lower
may_take-requires-in-AllRef-clause-lower c = no_range c.args.scope.now.types.now.types

pub may_take-requires-in-AllRef-clause-upper : goal.may_take-requires-in-AllRef-clause-upper
may_take-requires-in-AllRef-clause-upper c =
    exception_in_range c.args.scope.now.types.now.types c.exception-in-AllRef.result c.exception-in-AllRef.ensures

pub returns-in-Some : goal.returns-in-Some
returns-in-Some c =
    rw c.in-One.is (one_caught (bare c.args.scope.now) (label_of c.args.shape.now ∷ labels_of (reverse c.args.outers.now)) c.in-One.tag
    c.in-One.label c.in-Some.values.now c.may_take.result c.in-Some.ensures c.may_take.ensures)

pub returns-in-None : goal.returns-in-None
returns-in-None c =
    rw c.in-One.is (one_unknown (bare c.args.scope.now) (label_of c.args.shape.now ∷ labels_of (reverse c.args.outers.now)) c.in-One.tag
    c.in-One.label c.in-None.ensures)

pub returns-in-Some-tag_values : goal.returns-in-Some-tag_values
returns-in-Some-tag_values c =
    rw c.in-OneRef.is (reference_caught (bare c.args.scope.now) (label_of c.args.shape.now ∷ labels_of (reverse c.args.outers.now))
    c.in-OneRef.tag c.in-OneRef.label c.in-Some-tag_values.values.now c.exception.result c.may_take-in-Some-tag_values.result
    c.in-Some-tag_values.ensures c.exception.ensures c.may_take-in-Some-tag_values.ensures)

pub returns-in-None-tag_values : goal.returns-in-None-tag_values
returns-in-None-tag_values c =
    rw c.in-OneRef.is (reference_unknown (bare c.args.scope.now) (label_of c.args.shape.now ∷ labels_of (reverse c.args.outers.now))
    c.in-OneRef.tag c.in-OneRef.label c.in-None-tag_values.ensures)

pub returns-in-All : goal.returns-in-All
returns-in-All c = rw c.in-All.is c.may_take-in-All.ensures

pub returns-in-AllRef : goal.returns-in-AllRef
returns-in-AllRef c =
    rw c.in-AllRef.is (any_reference_caught (bare c.args.scope.now) (label_of c.args.shape.now ∷ labels_of (reverse c.args.outers.now))
    c.in-AllRef.label c.exception-in-AllRef.result c.may_take-in-AllRef.result c.exception-in-AllRef.ensures c.may_take-in-AllRef.ensures)
