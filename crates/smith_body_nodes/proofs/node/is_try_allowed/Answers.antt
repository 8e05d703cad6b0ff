use Rattle.smith_body_nodes.proofs.Common.{sym, ◌∙◌}
use Rattle.smith_types.specs.Syntax.FeatureBits.{features_in}
use Rattle.smith_body_nodes.proofs.AllowedLemmas.{try_allowed, try_forbidden}
use Rattle.smith_body_nodes.proofs.node.is_try_allowed.Goals as goal

pub returns-then-not-is_allowed-clause-exact : goal.returns-then-not-is_allowed-clause-exact
returns-then-not-is_allowed-clause-exact c = λ clauses. try_forbidden (features_in c.args.scope.now.features) c.args.scope.now.config.now
    c.args.ty clauses _ (sym c.is_allowed.ensures.exact ∙ c.if-not-is_allowed.true)

pub returns-clause-exact : goal.returns-clause-exact
returns-clause-exact c = λ clauses. try_allowed (features_in c.args.scope.now.features) c.args.scope.now.config.now c.args.ty clauses _ _
    (sym c.is_allowed.ensures.exact ∙ c.if-not-is_allowed.false) c.is_block_allowed.ensures.exact
