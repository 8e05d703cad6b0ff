use Rattle.smith_body_nodes.proofs.ReferenceChoiceLemmas.{non_null_gives}
use Rattle.smith_body_nodes.proofs.reference_values.choose_non_null.Goals as goal

pub returns-clause-offer : goal.returns-clause-offer
returns-clause-offer c = λ context set valid. rw (c.in_ok-node.ensures.exact, c.nullable_to.ensures)
    (non_null_gives c.args.to context set valid)
