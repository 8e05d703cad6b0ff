use Rattle.smith_body_nodes.proofs.NumericNodeLemmas.{select_node}
use Rattle.smith_body_nodes.proofs.numeric.choose_select.Goals as goal

pub returns-clause-offer : goal.returns-clause-offer
returns-clause-offer c = λ context set valid. rw c.in_ok-node.ensures.exact
    (select_node c.args.wanted (c.is_numeric.ensures.numeric c.if-not-is_numeric.false) context set valid)
