use Rattle.smith_body_nodes.proofs.Common.{sym, ◌∙◌}
use Rattle.smith_body_nodes.specs.Scopes.{bare, where_stands}
use Rattle.smith_body_nodes.proofs.ReferenceChoiceLemmas.{eq_gives, eq_off, eq_on}
use Rattle.smith_body_nodes.proofs.reference_values.choose_eq.Goals as goal

pub returns-then-not-contains-clause-exact : goal.returns-then-not-contains-clause-exact
returns-then-not-contains-clause-exact c = eq_off (bare c.args.scope.now).features (sym c.contains.ensures ∙ c.if-not-contains.true)

pub returns-clause-exact : goal.returns-clause-exact
returns-clause-exact c = rw (c.in_ok-node.ensures.exact, c.nullable_to-eqref.ensures, c.unshared_heap_type.ensures)
    (eq_on (bare c.args.scope.now).features (sym c.contains.ensures ∙ c.if-not-contains.false))

pub returns-clause-offer : goal.returns-clause-offer
returns-clause-offer c = rw (c.in_ok-node.ensures.exact, c.nullable_to-eqref.ensures, c.unshared_heap_type.ensures)
    (eq_gives (where_stands c.args.scope.now c.args.draft.now) c.args.draft.now.set.items c.requires.on
    (sym c.contains.ensures ∙ c.if-not-contains.false))
