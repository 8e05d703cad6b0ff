use Rattle.smith_body_leaves.proofs.LeafLemmas.{null_constant, no_constant}
use Rattle.smith_body_leaves.proofs.single.draw_constant.Goals as goal

pub returns-then-reference-clause-typed : goal.returns-then-reference-clause-typed
returns-then-reference-clause-typed c = rw c.in-Ref.is (null_constant c.in-Ref.reference c.if-reference.true)

pub returns-else-reference-clause-typed : goal.returns-else-reference-clause-typed
returns-else-reference-clause-typed c = no_constant c.args.wanted
