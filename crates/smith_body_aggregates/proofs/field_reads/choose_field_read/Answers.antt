use Rattle.smith_body_aggregates.proofs.Common.{ok_by, sym, where_stands, ◌∙◌}
use Rattle.smith_body_aggregates.proofs.FieldLemmas.{read_off, read_on}
use Rattle.smith_body_aggregates.proofs.field_reads.choose_field_read.Goals as goal

pub returns-then-not-names_types-clause-exact : goal.returns-then-not-names_types-clause-exact
returns-then-not-names_types-clause-exact c = read_off (where_stands c.args.scope.now c.args.draft.now) c.args.wanted c.args.u.now
    (sym c.names_types.ensures ∙ c.if-not-names_types.true)

pub returns-clause-exact : goal.returns-clause-exact
returns-clause-exact c =
    ok_by c.choose_read.result _ _ _ (read_on (where_stands c.args.scope.now c.args.draft.now) c.args.wanted c.args.u.now
    (sym c.names_types.ensures ∙ c.if-not-names_types.false)) c.choose_read.ensures.exact
