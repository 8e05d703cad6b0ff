use Rattle.smith_body_memory.proofs.Common.{where_stands}
use Rattle.smith_body_memory.proofs.MemoryNodeLemmas.{size_node}
use Rattle.smith_body_memory.proofs.memories.choose_size.Goals as goal

pub returns-clause-offer : goal.returns-clause-offer
returns-clause-offer c =
    rw c.in_ok-node.ensures.exact (size_node (where_stands c.args.scope.now c.args.draft.now) c.args.draft.now.set.items c.args.wanted
    c.args.index c.requires.addressed)
