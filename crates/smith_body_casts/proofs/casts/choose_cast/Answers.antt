use Rattle.std.proofs.Common.{sym, ◌∙◌}
use Rattle.smith_body_nodes.specs.Scopes.{where_stands}
use Rattle.smith_body_casts.proofs.CastLemmas.{cast_off, cast_on}
use Rattle.smith_body_nodes.proofs.ChosenLemmas.{ok_by}
use Rattle.smith_body_casts.proofs.casts.choose_cast.Goals as goal

pub returns-then-not-names_types-clause-exact : goal.returns-then-not-names_types-clause-exact
returns-then-not-names_types-clause-exact c = cast_off (where_stands c.args.scope.now c.args.draft.now) c.args.wanted c.args.u.now
    (sym c.names_types.ensures ∙ c.if-not-names_types.true)

pub returns-clause-exact : goal.returns-clause-exact
returns-clause-exact c = ok_by c.choose_cast_for.result _ _ _ (cast_on (where_stands c.args.scope.now c.args.draft.now) c.args.wanted
    c.args.u.now (sym c.names_types.ensures ∙ c.if-not-names_types.false)) c.choose_cast_for.ensures.exact
