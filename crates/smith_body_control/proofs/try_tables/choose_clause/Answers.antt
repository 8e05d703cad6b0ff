use Rattle.smith_body_control.proofs.Common.{context_of, no_valid, ok_by}
use Rattle.smith_body_control.proofs.TryLemmas.{clause_by_tag, clause_untagged}
use Rattle.smith_body_control.proofs.try_tables.choose_clause.Goals as goal

pub choose_clause_to-requires-clause-values : goal.choose_clause_to-requires-clause-values
choose_clause_to-requires-clause-values c = no_valid (context_of c.args.scope.now c.args.labels.now)

pub returns-then-tagged-clause-exact : goal.returns-then-tagged-clause-exact
returns-then-tagged-clause-exact c =
    ok_by c.choose_tagged_clause.result _ _ _
    (clause_by_tag (context_of c.args.scope.now c.args.labels.now) c.args.u.now _ _ c.draw_referenced-referenced.result
    (rw c.if-tagged.true at c.arbitrary-tagged.ensures.exact) c.draw_referenced-referenced.ensures.exact)
    c.choose_tagged_clause.ensures.exact

pub returns-clause-exact : goal.returns-clause-exact
returns-clause-exact c =
    ok_by c.choose_clause_to.result _ _ _
    (clause_untagged (context_of c.args.scope.now c.args.labels.now) c.args.u.now _ _ c.draw_referenced-referenced.result
    (rw c.if-tagged.false at c.arbitrary-tagged.ensures.exact) c.draw_referenced-referenced.ensures.exact)
    c.choose_clause_to.ensures.exact
