use Rattle.smith_body_choices.proofs.Common.{sym, where_stands, ◌∙◌}
use Rattle.smith_types.specs.Syntax.FeatureBits.{features_in}
use Rattle.smith_body_choices.proofs.ChoiceLemmas.{allowed_node, allowed_none, forbidden_node}
use Rattle.smith_body_nodes.proofs.StopLemmas.{node_goes_on}
use Rattle.smith_body_choices.proofs.choices.choose_allowed.Goals as goal

pub returns-then-is_node_allowed-clause-exact : goal.returns-then-is_node_allowed-clause-exact
returns-then-is_node_allowed-clause-exact c =
    allowed_node c.args.scope.now.config.now (where_stands c.args.scope.now c.args.draft.now) c.args.wanted c.args.u.now _ c.in-Some.node
    (rw c.in-Some.is at c.in_ok-chosen.ensures.exact) (sym c.is_node_allowed.ensures.exact ∙ c.if-is_node_allowed.true)

pub returns-else-is_node_allowed-clause-exact : goal.returns-else-is_node_allowed-clause-exact
returns-else-is_node_allowed-clause-exact c =
    forbidden_node c.args.scope.now.config.now (where_stands c.args.scope.now c.args.draft.now) c.args.wanted c.args.u.now _ c.in-Some.node
    (rw c.in-Some.is at c.in_ok-chosen.ensures.exact) (sym c.is_node_allowed.ensures.exact ∙ c.if-is_node_allowed.false)

pub returns-in-None-clause-exact : goal.returns-in-None-clause-exact
returns-in-None-clause-exact c = allowed_none c.args.scope.now.config.now (where_stands c.args.scope.now c.args.draft.now) c.args.wanted
    c.args.u.now _ (rw c.in-None.is at c.in_ok-chosen.ensures.exact)

pub returns-then-is_node_allowed-clause-goes_on : goal.returns-then-is_node_allowed-clause-goes_on
returns-then-is_node_allowed-clause-goes_on c =
    node_goes_on (features_in c.args.scope.now.features) c.args.scope.now.config.now c.in-Some.node (sym c.is_node_allowed.ensures.exact
    ∙ c.if-is_node_allowed.true)
