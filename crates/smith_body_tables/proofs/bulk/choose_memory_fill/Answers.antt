use Rattle.smith_body_nodes.specs.Scopes.{where_stands}
use Rattle.smith_body_tables.proofs.BulkLemmas.{fill_node}
use Rattle.smith_body_nodes.proofs.ResultLemmas.{ok_like}
use Rattle.smith_body_tables.proofs.bulk.choose_memory_fill.Goals as goal

pub returns-clause-node : goal.returns-clause-node
returns-clause-node c =
    ok_like _ c.plain-2.result (fill_node (where_stands c.args.scope.now c.args.draft.now) c.args.draft.now.set.items c.in-Some.into.0
    c.in-Some.into.1 c.in-Some.ensures.there)
    (rw c.address-place.ensures at c.plain-2.ensures.exact)
