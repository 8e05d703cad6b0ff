use Rattle.smith_body_memory.proofs.Common.{as_node, as_nop, None, nop_node, ok_like, Some, where_stands}
use Rattle.smith_instr.specs.declared.atomic.AtomicAccess.TheVariants as atomic
use Rattle.smith_instr.specs.declared.atomic.AtomicWidth.TheVariants as width
use Rattle.smith_body_memory.proofs.AtomicNodeLemmas.{atomic_there}
use Rattle.smith_body_memory.proofs.AtomicChoiceLemmas.{atomic_store_by}
use Rattle.smith_body_memory.proofs.atomics.choose_atomic_store.Goals as goal

pub returns-in_default-clause-node : goal.returns-in_default-clause-node
returns-in_default-clause-node c =
    ok_like _ c.plain.result (nop_node (where_stands c.args.scope.now c.args.draft.now) c.args.draft.now.set.items) c.plain.ensures.exact

pub returns-in_default-clause-exact : goal.returns-in_default-clause-exact
returns-in_default-clause-exact c =
    ok_like _ c.plain.result
    (as_nop _ _ (atomic_store_by c.args.scope.now.config.now (where_stands c.args.scope.now c.args.draft.now) c.args.u.now _ _
    c.atomic_widths.result.now c.choose.result None c.atomic_widths.ensures (c.choose.ensures.exact width.I32)
    c.in_default.ensures.exact)) c.plain.ensures.exact

pub returns-clause-node : goal.returns-clause-node
returns-clause-node c = ok_like _ c.atomic.result (atomic_there (where_stands c.args.scope.now c.args.draft.now) c.args.draft.now.set.items
    (atomic.Store c.choose.result) c.in-Some.access c.in-Some.ensures.access) c.atomic.ensures.exact

pub returns-clause-exact : goal.returns-clause-exact
returns-clause-exact c =
    ok_like _ c.atomic.result (as_node _ _ _ (atomic_store_by c.args.scope.now.config.now (where_stands c.args.scope.now c.args.draft.now)
    c.args.u.now _ _ c.atomic_widths.result.now c.choose.result (Some c.in-Some.access) c.atomic_widths.ensures
    (c.choose.ensures.exact width.I32) c.in-Some.ensures.exact)) c.atomic.ensures.exact
