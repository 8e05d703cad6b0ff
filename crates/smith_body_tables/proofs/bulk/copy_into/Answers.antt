use Rattle.smith_body_nodes.specs.Scopes.{where_stands}
use Rattle.smith_body_tables.proofs.BulkLemmas.{copy_node}
use Rattle.smith_body_nodes.proofs.ResultLemmas.{ok_like}
use Rattle.smith_body_tables.proofs.bulk.copy_into.Goals as goal

pub returns-clause-node : goal.returns-clause-node
returns-clause-node c =
    ok_like _ c.plain-2.result (copy_node (where_stands c.args.scope.now c.args.draft.now) c.args.draft.now.set.items c.args.into.0
    c.in-Some.out.0 c.args.into.1 c.in-Some.out.1 c.requires.into c.in-Some.ensures.there)
    (rw (c.address.ensures, c.address-2.ensures, c.narrower-size.ensures) at c.plain-2.ensures.exact)
