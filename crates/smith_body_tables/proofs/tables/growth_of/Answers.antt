use Rattle.smith_body_nodes.specs.Scopes.{where_stands}
use Rattle.smith_body_tables.proofs.TableLemmas.{grow_node, size_node}
use Rattle.smith_body_tables.proofs.tables.growth_of.Goals as goal

pub returns-then-grown-clause-offer : goal.returns-then-grown-clause-offer
returns-then-grown-clause-offer c =
    rw c.in_ok-node.ensures.exact (grow_node (where_stands c.args.scope.now c.args.draft.now) c.args.draft.now.set.items c.args.wanted
    c.args.index _ c.requires.scope.tables c.requires.below c.requires.addressed)

pub returns-clause-offer : goal.returns-clause-offer
returns-clause-offer c =
    rw c.in_ok-node-2.ensures.exact (size_node (where_stands c.args.scope.now c.args.draft.now) c.args.draft.now.set.items c.args.wanted
    c.args.index c.requires.addressed)
