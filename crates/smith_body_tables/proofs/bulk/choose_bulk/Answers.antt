use Rattle.smith_body_nodes.specs.Scopes.{where_stands}
use Rattle.smith_body_tables.specs.declared.bulk.Bulk.TheVariants as bulk
use Rattle.smith_body_tables.proofs.BulkLemmas.{bulk_by}
use Rattle.smith_body_nodes.proofs.ChosenLemmas.{ok_by}
use Rattle.smith_body_tables.proofs.bulk.choose_bulk.Goals as goal

pub returns-in-Fill-clause-exact : goal.returns-in-Fill-clause-exact
returns-in-Fill-clause-exact c = ok_by c.choose_memory_fill.result _ _ _
    (bulk_by (where_stands c.args.scope.now c.args.draft.now) c.args.u.now _ c.bulks.result.now c.choose.result bulk.Fill c.bulks.ensures
    (c.choose.ensures.exact bulk.Fill) c.in-Fill.is) c.choose_memory_fill.ensures.exact

pub returns-in-Copy-clause-exact : goal.returns-in-Copy-clause-exact
returns-in-Copy-clause-exact c = ok_by c.choose_memory_copy.result _ _ _
    (bulk_by (where_stands c.args.scope.now c.args.draft.now) c.args.u.now _ c.bulks.result.now c.choose.result bulk.Copy c.bulks.ensures
    (c.choose.ensures.exact bulk.Fill) c.in-Copy.is) c.choose_memory_copy.ensures.exact

pub returns-in-Init-clause-exact : goal.returns-in-Init-clause-exact
returns-in-Init-clause-exact c = ok_by c.choose_memory_init.result _ _ _
    (bulk_by (where_stands c.args.scope.now c.args.draft.now) c.args.u.now _ c.bulks.result.now c.choose.result bulk.Init c.bulks.ensures
    (c.choose.ensures.exact bulk.Fill) c.in-Init.is) c.choose_memory_init.ensures.exact

pub returns-in-DataDrop-clause-exact : goal.returns-in-DataDrop-clause-exact
returns-in-DataDrop-clause-exact c = ok_by c.choose_data_drop.result _ _ _
    (bulk_by (where_stands c.args.scope.now c.args.draft.now) c.args.u.now _ c.bulks.result.now c.choose.result bulk.DataDrop
    c.bulks.ensures (c.choose.ensures.exact bulk.Fill) c.in-DataDrop.is) c.choose_data_drop.ensures.exact
