use Rattle.std.proofs.Common.{length, ◌∙◌}
use Rattle.smith_body_nodes.specs.Items.{index_at}
use Rattle.smith_body_nodes.specs.Scopes.{bare}
use Rattle.smith_body_calls.proofs.CallLemmas.{called_again, called_once}
use Rattle.smith_body_calls.proofs.called.draw_called.Goals as goal

pub returns-then-may_be_own-clause-exact : goal.returns-then-may_be_own-clause-exact
returns-then-may_be_own-clause-exact c =
    let context = bare c.args.scope.now in
    called_again context (index_at (length context.funcs)) c.args.u.now _ _ _
    c.draw_index-first.ensures.exact c.may_be_own.ensures c.if-may_be_own.true
    ∙ c.draw_index.ensures.exact

pub returns-clause-exact : goal.returns-clause-exact
returns-clause-exact c =
    let context = bare c.args.scope.now in
    called_once context (index_at (length context.funcs)) c.args.u.now _ _ _
    c.draw_index-first.ensures.exact c.may_be_own.ensures c.if-may_be_own.false
