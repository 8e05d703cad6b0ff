use Rattle.smith_body_control.proofs.Common.{context_of, None, ok_by, Some}
use Rattle.smith_body_control.proofs.ThrowLemmas.{tag_is, tag_there}
use Rattle.smith_body_control.proofs.TryLemmas.{tagged_clause, tagless_clause}
use Rattle.smith_body_control.proofs.try_tables.choose_tagged_clause.Goals as goal

pub choose_clause_to-requires-clause-values : goal.choose_clause_to-requires-clause-values
choose_clause_to-requires-clause-values c =
    let ty = c.in-Some-tag_type_of.ty.now in
    let there = tag_there (context_of c.args.scope.now c.args.labels.now) c.in-Some.tag ty c.in-Some-tag_type_of.ensures in
    rw c.as_slice.ensures (c.requires.scope.params_valid there.0 ty there.2)

pub choose_clause_to-requires-clause-caught : goal.choose_clause_to-requires-clause-caught
choose_clause_to-requires-clause-caught c =
    rw c.as_slice.ensures (tag_is (context_of c.args.scope.now c.args.labels.now) c.in-Some.tag c.in-Some-tag_type_of.ty.now
    c.requires.scope.tags c.in-Some-tag_type_of.ensures)

pub returns-in_default-clause-exact : goal.returns-in_default-clause-exact
returns-in_default-clause-exact c = tagless_clause (context_of c.args.scope.now c.args.labels.now) c.args.referenced c.args.u.now _
    c.in_default.ensures.exact

pub returns-in_default-tag_type_of-clause-exact : goal.returns-in_default-tag_type_of-clause-exact
returns-in_default-tag_type_of-clause-exact c =
    tagged_clause (context_of c.args.scope.now c.args.labels.now) c.args.referenced c.args.u.now _ c.in-Some.tag None
    c.in-Some.ensures.exact c.in_default-tag_type_of.ensures

pub returns-clause-exact : goal.returns-clause-exact
returns-clause-exact c =
    ok_by c.choose_clause_to.result _ _ _
    (tagged_clause (context_of c.args.scope.now c.args.labels.now) c.args.referenced c.args.u.now _ c.in-Some.tag
    (Some c.in-Some-tag_type_of.ty.now) c.in-Some.ensures.exact c.in-Some-tag_type_of.ensures)
    (rw c.as_slice.ensures at c.choose_clause_to.ensures.exact)
