use Rattle.smith_body_nodes.specs.Scopes.{where_stands}
use Rattle.smith_body_tables.proofs.TableLemmas.{get_node}
use Rattle.smith_body_tables.proofs.tables.choose_table_get.Goals as goal

pub returns-clause-offer : goal.returns-clause-offer
returns-clause-offer c =
    rw (c.in_ok-node.ensures.exact, c.address.ensures) (get_node (where_stands c.args.scope.now c.args.draft.now) c.args.draft.now.set.items
    c.args.wanted c.in-Some.index _ c.requires.scope.orderly c.requires.wanted c.in-Some.ensures.below c.in-Some.ensures.offered)
