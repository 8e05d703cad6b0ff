use Rattle.smith_body_memory.proofs.Common.{ap, as_node, as_nop, List, ok_like, Option, where_stands, ℕ}
use Rattle.smith_body_memory.proofs.MemoryNodeLemmas.{store_node}
use Rattle.smith_body_memory.specs.MemoryChoices.{store_node as storing}
use Rattle.smith_body_nodes.specs.Chosen.{giving}
use Rattle.smith_body_memory.specs.declared.memories.Access.{Access}
use Rattle.smith_body_memory.proofs.memories.store_of.Goals as goal

pub returns-clause-node : goal.returns-clause-node
returns-clause-node c =
    let aligned = rw c.log2_bytes.ensures at c.in-Some.ensures.aligned in
    ok_like _ c.plain-2.result (store_node (where_stands c.args.scope.now c.args.draft.now) c.args.draft.now.set.items c.args.op
    c.in-Some.access.at c.in-Some.access.wide c.in-Some.ensures.access aligned)
    (rw (c.address.ensures, c.value.ensures) at c.plain-2.ensures.exact)

pub returns-in_default-clause-exact : goal.returns-in_default-clause-exact
returns-in_default-clause-exact c =
    ok_like _ c.plain.result
    (as_nop _ _ (ap (λ (d : Option Access × List ℕ). giving (storing c.args.op) d)
    (rw c.log2_bytes.ensures at c.in_default.ensures.exact))) c.plain.ensures.exact

pub returns-clause-exact : goal.returns-clause-exact
returns-clause-exact c =
    ok_like _ c.plain-2.result
    (as_node _ _ _ (ap (λ (d : Option Access × List ℕ). giving (storing c.args.op) d)
    (rw c.log2_bytes.ensures at c.in-Some.ensures.exact)))
    (rw (c.address.ensures, c.value.ensures) at c.plain-2.ensures.exact)
