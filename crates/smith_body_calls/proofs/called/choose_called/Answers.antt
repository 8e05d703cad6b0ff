use Rattle.std.proofs.Common.{length, ◌∙◌}
use Rattle.smith_body_nodes.specs.Offered.{chunk_at, is_callable}
use Rattle.smith_body_nodes.specs.Scopes.{bare, indexed}
use Rattle.smith_body_calls.proofs.CallLemmas.{called_again, called_once}
use Rattle.smith_body_calls.proofs.called.choose_called.Goals as goal

pub returns-then-may_be_own-clause-exact : goal.returns-then-may_be_own-clause-exact
returns-then-may_be_own-clause-exact c =
    let context = bare c.args.scope.now in
    called_again context (chunk_at (is_callable context c.args.wanted) (indexed (length context.funcs))) c.args.u.now _ _ _
    c.choose_callable-first.ensures.exact c.may_be_own.ensures c.if-may_be_own.true
    ∙ c.choose_callable.ensures.exact

pub returns-clause-exact : goal.returns-clause-exact
returns-clause-exact c =
    let context = bare c.args.scope.now in
    called_once context (chunk_at (is_callable context c.args.wanted) (indexed (length context.funcs))) c.args.u.now _ _ _
    c.choose_callable-first.ensures.exact c.may_be_own.ensures c.if-may_be_own.false
