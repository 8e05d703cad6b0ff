use Rattle.smith_body_nodes.proofs.ReferenceChoiceLemmas.{select_typed_gives}
use Rattle.smith_body_nodes.proofs.reference_values.choose_select_typed.Goals as goal

pub returns-clause-offer : goal.returns-clause-offer
returns-clause-offer c = λ context set valid. rw c.in_ok-node.ensures.exact
    (rw c.in_ok-types.ensures.ok (select_typed_gives c.args.wanted context set valid))
