use Rattle.smith_draw_shape_imports.proofs.Common.{true, ◌≡◌}
use Rattle.std.proofs.lemmas.Result.{IfOk-weaker}
use Rattle.smith_draw_shape_imports.specs.AvailableImports.{may_join}
use Rattle.smith_draw_shape_imports.proofs.GroupedImportsLoop.{joins_group, begins_group, groups_joined}
use Rattle.smith_draw_shape_imports.proofs.grouped_imports.add_next.Goals as goal

pub returns-then-joins-clause-exact : goal.returns-then-joins-clause-exact
returns-then-joins-clause-exact c = λ more.
    rw (c.in_ok-push_import.ensures.ok, c.in_ok-clone.ensures.ok) (joins_group c.args.config.now c.args.made.now c.args.group c.args.u.now
    c.args.next.now more c.joins.ensures.draws.exact c.if-joins.true)

pub returns-then-joins-clause-groups : goal.returns-then-joins-clause-groups
returns-then-joins-clause-groups c = λ imports so_far.
    let may : may_join c.args.group c.args.next.now ≡ true = c.joins.ensures.may c.if-joins.true in
    rw (c.in_ok-push_import.ensures.ok, c.in_ok-clone.ensures.ok) (groups_joined c.args.made.now c.args.group c.args.next.now so_far may)

pub returns-clause-exact : goal.returns-clause-exact
returns-clause-exact c = λ more. IfOk-weaker c.begin.result _ _
    (λ last drawn. rw c.in_ok-push.ensures.ok (begins_group c.args.config.now c.args.made.now c.args.group c.args.u.now c.args.next.now more
    c.joins.ensures.draws.exact c.if-joins.false drawn)) c.begin.ensures.draws.exact
