use Rattle.smith_body_nodes.specs.Scopes.{where_stands}
use Rattle.smith_body_nodes.proofs.ReferenceChoiceLemmas.{is_null_gives}
use Rattle.smith_body_nodes.proofs.reference_values.choose_is_null.Goals as goal

pub returns-clause-offer : goal.returns-clause-offer
returns-clause-offer c = rw (c.in_ok-node.ensures.exact, c.nullable_to.ensures)
    (is_null_gives (where_stands c.args.scope.now c.args.draft.now) c.args.draft.now.set.items c.args.heap_type c.requires.on
    c.requires.valid)
