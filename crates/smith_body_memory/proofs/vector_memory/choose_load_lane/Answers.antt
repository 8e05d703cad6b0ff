use Rattle.smith_body_memory.proofs.Common.{ap, List, Option, where_stands, ℕ}
use Rattle.smith_body_memory.specs.Accesses.{accessing}
use Rattle.smith_body_memory.specs.VectorChoices.{load_lane_node as loading}
use Rattle.smith_body_memory.specs.declared.vector_memory.LaneAccess.{LaneAccess}
use Rattle.smith_body_memory.proofs.VectorNodeLemmas.{load_lane_node}
use Rattle.smith_body_memory.proofs.vector_memory.choose_load_lane.Goals as goal

pub returns-clause-offer : goal.returns-clause-offer
returns-clause-offer c =
    rw (c.in_ok-node.ensures.exact, c.address.ensures)
    (load_lane_node (where_stands c.args.scope.now c.args.draft.now) c.args.draft.now.set.items c.in-Some.to.log2_bytes c.in-Some.to.lane
    c.in-Some.to.access.at c.in-Some.to.access.wide c.requires.simd c.in-Some.ensures.access c.in-Some.ensures.aligned
    c.in-Some.ensures.lane)

pub returns-in_default-clause-exact : goal.returns-in_default-clause-exact
returns-in_default-clause-exact c = ap (λ (drawn : Option LaneAccess × List ℕ). accessing (λ to. loading to) drawn)
    c.in_default.ensures.exact

pub returns-clause-exact : goal.returns-clause-exact
returns-clause-exact c =
    rw (c.in_ok-node.ensures.exact, c.address.ensures) (ap (λ (drawn : Option LaneAccess × List ℕ). accessing (λ to. loading to) drawn)
    c.in-Some.ensures.exact)
