use Rattle.smith_body_choices.proofs.Common.{ok_by, ok_like, where_stands}
use Rattle.smith_body_choices.specs.declared.families.StatementFamily.TheVariants as statement
use Rattle.smith_body_memory.proofs.AtomicNodeLemmas.{fence_node}
use Rattle.smith_body_nodes.proofs.NodeLemmas.{nop_node}
use Rattle.smith_body_choices.proofs.ChoiceLemmas.{statement_by}
use Rattle.smith_body_choices.proofs.choices.choose_any_statement.Goals as goal

pub returns-in-Nop-clause-node : goal.returns-in-Nop-clause-node
returns-in-Nop-clause-node c =
    ok_like _ c.plain.result (nop_node (where_stands c.args.scope.now c.args.draft.now) c.args.draft.now.set.items) c.plain.ensures.exact

pub returns-in-Nop-clause-exact : goal.returns-in-Nop-clause-exact
returns-in-Nop-clause-exact c =
    ok_like _ c.plain.result (statement_by c.args.scope.now.config.now (where_stands c.args.scope.now c.args.draft.now) c.args.u.now _
    c.statement_families.result.now c.choose.result statement.Nop c.statement_families.ensures (c.choose.ensures.exact statement.Nop)
    c.in-Nop.is) c.plain.ensures.exact

pub returns-in-Drop-clause-exact : goal.returns-in-Drop-clause-exact
returns-in-Drop-clause-exact c =
    ok_by c.choose_drop.result _ _ _ (statement_by c.args.scope.now.config.now (where_stands c.args.scope.now c.args.draft.now) c.args.u.now
    _ c.statement_families.result.now c.choose.result statement.Drop c.statement_families.ensures (c.choose.ensures.exact statement.Nop)
    c.in-Drop.is) c.choose_drop.ensures.exact

pub returns-in-GlobalSet-clause-exact : goal.returns-in-GlobalSet-clause-exact
returns-in-GlobalSet-clause-exact c = ok_by c.choose_global_set.result _ _ _
    (statement_by c.args.scope.now.config.now (where_stands c.args.scope.now c.args.draft.now) c.args.u.now _
    c.statement_families.result.now c.choose.result statement.GlobalSet c.statement_families.ensures (c.choose.ensures.exact statement.Nop)
    c.in-GlobalSet.is) c.choose_global_set.ensures.exact

pub returns-in-Call-clause-exact : goal.returns-in-Call-clause-exact
returns-in-Call-clause-exact c = ok_by c.choose_any_call.result _ _ _
    (statement_by c.args.scope.now.config.now (where_stands c.args.scope.now c.args.draft.now) c.args.u.now _
    c.statement_families.result.now c.choose.result statement.Call c.statement_families.ensures (c.choose.ensures.exact statement.Nop)
    c.in-Call.is) c.choose_any_call.ensures.exact

pub returns-in-Block-clause-exact : goal.returns-in-Block-clause-exact
returns-in-Block-clause-exact c = ok_by c.choose_any_block.result _ _ _
    (statement_by c.args.scope.now.config.now (where_stands c.args.scope.now c.args.draft.now) c.args.u.now _
    c.statement_families.result.now c.choose.result statement.Block c.statement_families.ensures (c.choose.ensures.exact statement.Nop)
    c.in-Block.is) c.choose_any_block.ensures.exact

pub returns-in-Branch-clause-exact : goal.returns-in-Branch-clause-exact
returns-in-Branch-clause-exact c =
    ok_by c.choose_branch.result _ _ _ (statement_by c.args.scope.now.config.now (where_stands c.args.scope.now c.args.draft.now)
    c.args.u.now _ c.statement_families.result.now c.choose.result statement.Branch c.statement_families.ensures
    (c.choose.ensures.exact statement.Nop) c.in-Branch.is) c.choose_branch.ensures.exact

pub returns-in-Store-clause-exact : goal.returns-in-Store-clause-exact
returns-in-Store-clause-exact c =
    ok_by c.choose_store.result _ _ _ (statement_by c.args.scope.now.config.now (where_stands c.args.scope.now c.args.draft.now)
    c.args.u.now _ c.statement_families.result.now c.choose.result statement.Store c.statement_families.ensures
    (c.choose.ensures.exact statement.Nop) c.in-Store.is) c.choose_store.ensures.exact

pub returns-in-LocalSet-clause-exact : goal.returns-in-LocalSet-clause-exact
returns-in-LocalSet-clause-exact c =
    ok_by c.choose_set.result _ _ _ (statement_by c.args.scope.now.config.now (where_stands c.args.scope.now c.args.draft.now) c.args.u.now
    _ c.statement_families.result.now c.choose.result statement.LocalSet c.statement_families.ensures (c.choose.ensures.exact statement.Nop)
    c.in-LocalSet.is) c.choose_set.ensures.exact

pub returns-in-TableChange-clause-exact : goal.returns-in-TableChange-clause-exact
returns-in-TableChange-clause-exact c = ok_by c.choose_table_change.result _ _ _
    (statement_by c.args.scope.now.config.now (where_stands c.args.scope.now c.args.draft.now) c.args.u.now _
    c.statement_families.result.now c.choose.result statement.TableChange c.statement_families.ensures
    (c.choose.ensures.exact statement.Nop) c.in-TableChange.is) c.choose_table_change.ensures.exact

pub returns-in-Bulk-clause-exact : goal.returns-in-Bulk-clause-exact
returns-in-Bulk-clause-exact c =
    ok_by c.choose_bulk.result _ _ _ (statement_by c.args.scope.now.config.now (where_stands c.args.scope.now c.args.draft.now) c.args.u.now
    _ c.statement_families.result.now c.choose.result statement.Bulk c.statement_families.ensures (c.choose.ensures.exact statement.Nop)
    c.in-Bulk.is) c.choose_bulk.ensures.exact

pub returns-in-CallIndirect-clause-exact : goal.returns-in-CallIndirect-clause-exact
returns-in-CallIndirect-clause-exact c = ok_by c.choose_any_indirect.result _ _ _
    (statement_by c.args.scope.now.config.now (where_stands c.args.scope.now c.args.draft.now) c.args.u.now _
    c.statement_families.result.now c.choose.result statement.CallIndirect c.statement_families.ensures
    (c.choose.ensures.exact statement.Nop) c.in-CallIndirect.is) c.choose_any_indirect.ensures.exact

pub returns-in-CallRef-clause-exact : goal.returns-in-CallRef-clause-exact
returns-in-CallRef-clause-exact c = ok_by c.choose_any_by_reference.result _ _ _
    (statement_by c.args.scope.now.config.now (where_stands c.args.scope.now c.args.draft.now) c.args.u.now _
    c.statement_families.result.now c.choose.result statement.CallRef c.statement_families.ensures (c.choose.ensures.exact statement.Nop)
    c.in-CallRef.is) c.choose_any_by_reference.ensures.exact

pub returns-in-NullBranch-clause-exact : goal.returns-in-NullBranch-clause-exact
returns-in-NullBranch-clause-exact c = ok_by c.choose_null_branch.result _ _ _
    (statement_by c.args.scope.now.config.now (where_stands c.args.scope.now c.args.draft.now) c.args.u.now _
    c.statement_families.result.now c.choose.result statement.NullBranch c.statement_families.ensures (c.choose.ensures.exact statement.Nop)
    c.in-NullBranch.is) c.choose_null_branch.ensures.exact

pub returns-in-VectorStore-clause-exact : goal.returns-in-VectorStore-clause-exact
returns-in-VectorStore-clause-exact c = ok_by c.choose_vector_store.result _ _ _
    (statement_by c.args.scope.now.config.now (where_stands c.args.scope.now c.args.draft.now) c.args.u.now _
    c.statement_families.result.now c.choose.result statement.VectorStore c.statement_families.ensures
    (c.choose.ensures.exact statement.Nop) c.in-VectorStore.is) c.choose_vector_store.ensures.exact

pub returns-in-StoreLane-clause-exact : goal.returns-in-StoreLane-clause-exact
returns-in-StoreLane-clause-exact c = ok_by c.choose_store_lane.result _ _ _
    (statement_by c.args.scope.now.config.now (where_stands c.args.scope.now c.args.draft.now) c.args.u.now _
    c.statement_families.result.now c.choose.result statement.StoreLane c.statement_families.ensures (c.choose.ensures.exact statement.Nop)
    c.in-StoreLane.is) c.choose_store_lane.ensures.exact

pub returns-in-AtomicStore-clause-exact : goal.returns-in-AtomicStore-clause-exact
returns-in-AtomicStore-clause-exact c = ok_by c.choose_atomic_store.result _ _ _
    (statement_by c.args.scope.now.config.now (where_stands c.args.scope.now c.args.draft.now) c.args.u.now _
    c.statement_families.result.now c.choose.result statement.AtomicStore c.statement_families.ensures
    (c.choose.ensures.exact statement.Nop) c.in-AtomicStore.is) c.choose_atomic_store.ensures.exact

pub returns-in-Fence-clause-node : goal.returns-in-Fence-clause-node
returns-in-Fence-clause-node c =
    ok_like _ c.plain-in-Fence.result (fence_node (where_stands c.args.scope.now c.args.draft.now) c.args.draft.now.set.items)
    c.plain-in-Fence.ensures.exact

pub returns-in-Fence-clause-exact : goal.returns-in-Fence-clause-exact
returns-in-Fence-clause-exact c =
    ok_like _ c.plain-in-Fence.result (statement_by c.args.scope.now.config.now (where_stands c.args.scope.now c.args.draft.now)
    c.args.u.now _ c.statement_families.result.now c.choose.result statement.Fence c.statement_families.ensures
    (c.choose.ensures.exact statement.Nop) c.in-Fence.is) c.plain-in-Fence.ensures.exact

pub returns-in-FieldWrite-clause-exact : goal.returns-in-FieldWrite-clause-exact
returns-in-FieldWrite-clause-exact c = ok_by c.choose_field_write.result _ _ _
    (statement_by c.args.scope.now.config.now (where_stands c.args.scope.now c.args.draft.now) c.args.u.now _
    c.statement_families.result.now c.choose.result statement.FieldWrite c.statement_families.ensures (c.choose.ensures.exact statement.Nop)
    c.in-FieldWrite.is) c.choose_field_write.ensures.exact

pub returns-in-CastBranch-clause-exact : goal.returns-in-CastBranch-clause-exact
returns-in-CastBranch-clause-exact c = ok_by c.choose_cast_branch.result _ _ _
    (statement_by c.args.scope.now.config.now (where_stands c.args.scope.now c.args.draft.now) c.args.u.now _
    c.statement_families.result.now c.choose.result statement.CastBranch c.statement_families.ensures (c.choose.ensures.exact statement.Nop)
    c.in-CastBranch.is) c.choose_cast_branch.ensures.exact

pub returns-in-Try-clause-exact : goal.returns-in-Try-clause-exact
returns-in-Try-clause-exact c =
    ok_by c.choose_any_try.result _ _ _ (statement_by c.args.scope.now.config.now (where_stands c.args.scope.now c.args.draft.now)
    c.args.u.now _ c.statement_families.result.now c.choose.result statement.Try c.statement_families.ensures
    (c.choose.ensures.exact statement.Nop) c.in-Try.is) c.choose_any_try.ensures.exact
