use Rattle.smith_check_body.proofs.Common.{label_of, labels_of, reverse, ◌∷◌}
use Rattle.smith_check_body.proofs.step.step.Goals as goal

pub returns-in-Unreachable-clause-ok : goal.returns-in-Unreachable-clause-ok
returns-in-Unreachable-clause-ok c =
    let labels = label_of c.args.shape.now ∷ labels_of (reverse c.args.outers.now) in
    let set = c.args.log.now.items in
    rw c.in-Unreachable.is (c.unreachable.ensures labels set)

pub returns-in-Nop-clause-ok : goal.returns-in-Nop-clause-ok
returns-in-Nop-clause-ok c =
    let labels = label_of c.args.shape.now ∷ labels_of (reverse c.args.outers.now) in
    let set = c.args.log.now.items in
    rw c.in-Nop.is (c.nop.ensures.ok labels set)

pub returns-in-Drop-clause-ok : goal.returns-in-Drop-clause-ok
returns-in-Drop-clause-ok c =
    let labels = label_of c.args.shape.now ∷ labels_of (reverse c.args.outers.now) in
    let set = c.args.log.now.items in
    rw c.in-Drop.is (c.drop_one.ensures labels set)

pub returns-in-Numeric-clause-ok : goal.returns-in-Numeric-clause-ok
returns-in-Numeric-clause-ok c =
    let labels = label_of c.args.shape.now ∷ labels_of (reverse c.args.outers.now) in
    let set = c.args.log.now.items in
    rw c.in-Numeric.is (c.numeric.ensures.ok labels set)

pub returns-in-Select-clause-ok : goal.returns-in-Select-clause-ok
returns-in-Select-clause-ok c =
    let labels = label_of c.args.shape.now ∷ labels_of (reverse c.args.outers.now) in
    rw c.in-Select.is (c.select.ensures.ok labels c.args.log.now.items)

pub returns-in-ThrowRef-clause-ok : goal.returns-in-ThrowRef-clause-ok
returns-in-ThrowRef-clause-ok c =
    let labels = label_of c.args.shape.now ∷ labels_of (reverse c.args.outers.now) in
    rw c.in-ThrowRef.is (c.throw_ref.ensures labels c.args.log.now.items)

pub returns-in-Throw-clause-ok : goal.returns-in-Throw-clause-ok
returns-in-Throw-clause-ok c =
    let labels = label_of c.args.shape.now ∷ labels_of (reverse c.args.outers.now) in
    rw c.in-Throw.is (c.throw.ensures labels c.args.log.now.items)

pub returns-in-SelectTyped-clause-ok : goal.returns-in-SelectTyped-clause-ok
returns-in-SelectTyped-clause-ok c =
    let labels = label_of c.args.shape.now ∷ labels_of (reverse c.args.outers.now) in
    rw c.in-SelectTyped.is (c.select_typed.ensures.ok labels c.args.log.now.items)

pub returns-in-Vector-clause-ok : goal.returns-in-Vector-clause-ok
returns-in-Vector-clause-ok c =
    let labels = label_of c.args.shape.now ∷ labels_of (reverse c.args.outers.now) in
    rw c.in-Vector.is (c.vector.ensures.ok labels c.args.log.now.items)

pub returns-in-Reference-clause-ok : goal.returns-in-Reference-clause-ok
returns-in-Reference-clause-ok c =
    let labels = label_of c.args.shape.now ∷ labels_of (reverse c.args.outers.now) in
    rw c.in-Reference.is (c.reference.ensures.ok labels c.args.log.now.items)

pub returns-in-Table-clause-ok : goal.returns-in-Table-clause-ok
returns-in-Table-clause-ok c =
    let labels = label_of c.args.shape.now ∷ labels_of (reverse c.args.outers.now) in
    rw c.in-Table.is (c.table.ensures.ok labels c.args.log.now.items)

pub returns-in-Aggregate-clause-ok : goal.returns-in-Aggregate-clause-ok
returns-in-Aggregate-clause-ok c =
    let labels = label_of c.args.shape.now ∷ labels_of (reverse c.args.outers.now) in
    rw c.in-Aggregate.is (c.aggregate.ensures.ok labels c.args.log.now.items)
