use Rattle.smith_body_nodes.specs.Scopes.{where_stands}
use Rattle.smith_body_nodes.proofs.ResultLemmas.{ok_like}
use Rattle.smith_body_tables.proofs.TableLemmas.{set_node}
use Rattle.smith_body_tables.proofs.tables.choose_table_set.Goals as goal

pub returns-clause-node : goal.returns-clause-node
returns-clause-node c =
    ok_like _ c.plain-2.result (set_node (where_stands c.args.scope.now c.args.draft.now) c.args.draft.now.set.items c.in-Some.into.0
    c.in-Some.into.1 c.in-Some.ensures.there c.in-Some.ensures.valid) (rw c.address.ensures at c.plain-2.ensures.exact)
