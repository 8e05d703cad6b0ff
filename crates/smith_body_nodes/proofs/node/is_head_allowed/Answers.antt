use Rattle.smith_body_nodes.proofs.AllowedLemmas.{try_head, try_head_allowed}
use Rattle.smith_body_nodes.proofs.node.is_head_allowed.Goals as goal

pub returns-in-Try-clause-exact : goal.returns-in-Try-clause-exact
returns-in-Try-clause-exact c = try_head c.args.scope.now _ _ _ _ c.is_try_allowed.result c.in-Try.is c.is_try_allowed.ensures.exact

pub returns-in-Try-clause-allowed : goal.returns-in-Try-clause-allowed
returns-in-Try-clause-allowed c = try_head_allowed c.args.scope.now _ _ _ _ c.is_try_allowed.result c.in-Try.is
    c.is_try_allowed.ensures.exact c.is_try_allowed.ensures.drops
