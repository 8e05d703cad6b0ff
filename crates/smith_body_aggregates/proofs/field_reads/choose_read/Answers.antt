use Rattle.smith_body_aggregates.proofs.Common.{ok_by, where_stands}
use Rattle.smith_body_aggregates.proofs.FieldLemmas.{read_array, read_struct}
use Rattle.smith_body_aggregates.proofs.field_reads.choose_read.Goals as goal

pub returns-then-arbitrary-clause-exact : goal.returns-then-arbitrary-clause-exact
returns-then-arbitrary-clause-exact c =
    ok_by c.choose_struct_get.result _ _ _ (read_struct (where_stands c.args.scope.now c.args.draft.now) c.args.wanted c.args.u.now _
    (rw c.if-arbitrary.true at c.arbitrary.ensures.exact)) c.choose_struct_get.ensures.exact

pub returns-clause-exact : goal.returns-clause-exact
returns-clause-exact c =
    ok_by c.choose_array_get.result _ _ _ (read_array (where_stands c.args.scope.now c.args.draft.now) c.args.wanted c.args.u.now _
    (rw c.if-arbitrary.false at c.arbitrary.ensures.exact)) c.choose_array_get.ensures.exact
