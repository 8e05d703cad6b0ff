use Rattle.smith_body_memory.proofs.Common.{None, Some, where_stands}
use Rattle.smith_instr.specs.declared.vector.VectorLoad.TheVariants as load
use Rattle.smith_body_memory.proofs.VectorNodeLemmas.{vector_load_node}
use Rattle.smith_body_memory.proofs.VectorChoiceLemmas.{vector_load_by}
use Rattle.smith_body_memory.proofs.vector_memory.choose_vector_load.Goals as goal

pub returns-clause-offer : goal.returns-clause-offer
returns-clause-offer c =
    let aligned = rw c.log2_bytes.ensures at c.in-Some.ensures.aligned in
    rw (c.in_ok-node.ensures.exact, c.address.ensures)
    (vector_load_node (where_stands c.args.scope.now c.args.draft.now) c.args.draft.now.set.items c.choose-op.result c.in-Some.access.at
    c.in-Some.access.wide c.requires.simd c.in-Some.ensures.access aligned)

pub returns-in_default-clause-exact : goal.returns-in_default-clause-exact
returns-in_default-clause-exact c =
    let at = rw c.log2_bytes.ensures at c.in_default.ensures.exact in
    vector_load_by c.args.scope.now.config.now c.args.scope.now.memories.now c.args.u.now _ _ c.vector_loads.result.now c.choose-op.result
    None c.vector_loads.ensures (c.choose-op.ensures.exact load.V128) at

pub returns-clause-exact : goal.returns-clause-exact
returns-clause-exact c =
    let at = rw c.log2_bytes.ensures at c.in-Some.ensures.exact in
    rw (c.in_ok-node.ensures.exact, c.address.ensures)
    (vector_load_by c.args.scope.now.config.now c.args.scope.now.memories.now c.args.u.now _ _ c.vector_loads.result.now c.choose-op.result
    (Some c.in-Some.access) c.vector_loads.ensures (c.choose-op.ensures.exact load.V128) at)
