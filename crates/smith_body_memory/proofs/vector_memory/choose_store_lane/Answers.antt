use Rattle.smith_body_memory.proofs.Common.{as_node, as_nop, None, nop_node, ok_like, Some, sym, where_stands, ◌∙◌}
use Rattle.smith_body_memory.proofs.VectorNodeLemmas.{store_lane_node}
use Rattle.smith_body_memory.proofs.VectorChoiceLemmas.{store_lane_off, store_lane_on}
use Rattle.smith_body_memory.proofs.vector_memory.choose_store_lane.Goals as goal

pub returns-then-not-has_vectors-clause-node : goal.returns-then-not-has_vectors-clause-node
returns-then-not-has_vectors-clause-node c =
    ok_like _ c.plain.result (nop_node (where_stands c.args.scope.now c.args.draft.now) c.args.draft.now.set.items) c.plain.ensures.exact

pub returns-then-not-has_vectors-clause-exact : goal.returns-then-not-has_vectors-clause-exact
returns-then-not-has_vectors-clause-exact c =
    ok_like _ c.plain.result
    (as_nop _ _ (store_lane_off c.args.scope.now.config.now (where_stands c.args.scope.now c.args.draft.now) c.args.u.now
    (sym c.has_vectors.ensures ∙ c.if-not-has_vectors.true))) c.plain.ensures.exact

pub returns-in_default-clause-node : goal.returns-in_default-clause-node
returns-in_default-clause-node c =
    ok_like _ c.plain-in_default.result (nop_node (where_stands c.args.scope.now c.args.draft.now) c.args.draft.now.set.items)
    c.plain-in_default.ensures.exact

pub returns-in_default-clause-exact : goal.returns-in_default-clause-exact
returns-in_default-clause-exact c =
    ok_like _ c.plain-in_default.result
    (as_nop _ _ (store_lane_on c.args.scope.now.config.now (where_stands c.args.scope.now c.args.draft.now) c.args.u.now _ None
    (sym c.has_vectors.ensures ∙ c.if-not-has_vectors.false) c.in_default.ensures.exact)) c.plain-in_default.ensures.exact

pub returns-clause-node : goal.returns-clause-node
returns-clause-node c =
    ok_like _ c.plain-2.result (store_lane_node (where_stands c.args.scope.now c.args.draft.now) c.args.draft.now.set.items
    c.in-Some.from.log2_bytes c.in-Some.from.lane c.in-Some.from.access.at c.in-Some.from.access.wide
    (sym c.has_vectors.ensures ∙ c.if-not-has_vectors.false) c.in-Some.ensures.access c.in-Some.ensures.aligned c.in-Some.ensures.lane)
    (rw c.address.ensures at c.plain-2.ensures.exact)

pub returns-clause-exact : goal.returns-clause-exact
returns-clause-exact c =
    ok_like _ c.plain-2.result
    (as_node _ _ _ (store_lane_on c.args.scope.now.config.now (where_stands c.args.scope.now c.args.draft.now) c.args.u.now _
    (Some c.in-Some.from) (sym c.has_vectors.ensures ∙ c.if-not-has_vectors.false) c.in-Some.ensures.exact))
    (rw c.address.ensures at c.plain-2.ensures.exact)
