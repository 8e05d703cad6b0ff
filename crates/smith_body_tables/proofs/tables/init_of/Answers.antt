use Rattle.smith_body_nodes.specs.Scopes.{where_stands}
use Rattle.smith_body_nodes.proofs.ResultLemmas.{ok_like}
use Rattle.smith_body_tables.proofs.TableLemmas.{init_node}
use Rattle.smith_body_tables.proofs.tables.init_of.Goals as goal

pub returns-clause-node : goal.returns-clause-node
returns-clause-node c =
    ok_like _ c.plain-2.result (init_node (where_stands c.args.scope.now c.args.draft.now) c.args.draft.now.set.items c.args.into.0
    c.in-Some.segment c.args.into.1 c.requires.scope.orderly c.requires.into c.in-Some.ensures.offered)
    (rw c.address.ensures at c.plain-2.ensures.exact)
