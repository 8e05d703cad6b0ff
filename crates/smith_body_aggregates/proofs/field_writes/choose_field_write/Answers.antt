use Rattle.smith_body_aggregates.proofs.Common.{ok_by, ok_like, sym, where_stands, ◌∙◌}
use Rattle.smith_body_aggregates.proofs.FieldLemmas.{write_off, write_on}
use Rattle.smith_body_aggregates.proofs.field_writes.choose_field_write.Goals as goal

pub returns-then-not-names_types-clause-exact : goal.returns-then-not-names_types-clause-exact
returns-then-not-names_types-clause-exact c =
    ok_like _ c.plain.result (write_off (where_stands c.args.scope.now c.args.draft.now) c.args.u.now
    (sym c.names_types.ensures ∙ c.if-not-names_types.true)) c.plain.ensures.exact

pub returns-clause-exact : goal.returns-clause-exact
returns-clause-exact c =
    ok_by c.choose_write.result _ _ _ (write_on (where_stands c.args.scope.now c.args.draft.now) c.args.u.now
    (sym c.names_types.ensures ∙ c.if-not-names_types.false)) c.choose_write.ensures.exact
