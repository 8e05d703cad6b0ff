use Rattle.smith_body_nodes.specs.Scopes.{where_stands}
use Rattle.smith_body_tables.specs.declared.tables.TableChange.TheVariants as change
use Rattle.smith_body_nodes.proofs.ChosenLemmas.{ok_by}
use Rattle.smith_body_tables.proofs.TableLemmas.{change_by}
use Rattle.smith_body_tables.proofs.tables.choose_table_change.Goals as goal

pub returns-in-Set-clause-exact : goal.returns-in-Set-clause-exact
returns-in-Set-clause-exact c = ok_by c.choose_table_set.result _ _ _
    (change_by (where_stands c.args.scope.now c.args.draft.now) c.args.u.now _ c.table_changes.result.now c.choose.result change.Set
    c.table_changes.ensures (c.choose.ensures.exact change.Set) c.in-Set.is) c.choose_table_set.ensures.exact

pub returns-in-Fill-clause-exact : goal.returns-in-Fill-clause-exact
returns-in-Fill-clause-exact c = ok_by c.choose_table_fill.result _ _ _
    (change_by (where_stands c.args.scope.now c.args.draft.now) c.args.u.now _ c.table_changes.result.now c.choose.result change.Fill
    c.table_changes.ensures (c.choose.ensures.exact change.Set) c.in-Fill.is) c.choose_table_fill.ensures.exact

pub returns-in-Copy-clause-exact : goal.returns-in-Copy-clause-exact
returns-in-Copy-clause-exact c = ok_by c.choose_table_copy.result _ _ _
    (change_by (where_stands c.args.scope.now c.args.draft.now) c.args.u.now _ c.table_changes.result.now c.choose.result change.Copy
    c.table_changes.ensures (c.choose.ensures.exact change.Set) c.in-Copy.is) c.choose_table_copy.ensures.exact

pub returns-in-Init-clause-exact : goal.returns-in-Init-clause-exact
returns-in-Init-clause-exact c = ok_by c.choose_table_init.result _ _ _
    (change_by (where_stands c.args.scope.now c.args.draft.now) c.args.u.now _ c.table_changes.result.now c.choose.result change.Init
    c.table_changes.ensures (c.choose.ensures.exact change.Set) c.in-Init.is) c.choose_table_init.ensures.exact

pub returns-in-ElemDrop-clause-exact : goal.returns-in-ElemDrop-clause-exact
returns-in-ElemDrop-clause-exact c = ok_by c.choose_elem_drop.result _ _ _
    (change_by (where_stands c.args.scope.now c.args.draft.now) c.args.u.now _ c.table_changes.result.now c.choose.result change.ElemDrop
    c.table_changes.ensures (c.choose.ensures.exact change.Set) c.in-ElemDrop.is) c.choose_elem_drop.ensures.exact
