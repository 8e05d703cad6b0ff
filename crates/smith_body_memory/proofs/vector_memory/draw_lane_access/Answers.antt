use Rattle.smith_body_memory.proofs.VectorChoiceLemmas.{lane_access_none, lane_access_there}
use Rattle.smith_body_memory.proofs.vector_memory.draw_lane_access.Goals as goal

pub returns-in_err-access-clause-exact : goal.returns-in_err-access-clause-exact
returns-in_err-access-clause-exact c =
    let drawn = rw (c.new.ensures.start, c.new.ensures.end) at c.int_in_range-log2_bytes.ensures.exact in
    rw c.from_residual.ensures (lane_access_none c.args.scope.now.config.now c.args.scope.now.memories.now c.args.u.now _ _
    c.int_in_range-log2_bytes.result drawn c.in_err-access.ensures.exact)

pub returns-clause-exact : goal.returns-clause-exact
returns-clause-exact c =
    let drawn = rw (c.new.ensures.start, c.new.ensures.end) at c.int_in_range-log2_bytes.ensures.exact in
    let drawn' = rw (c.new-2.ensures.start, c.new-2.ensures.end, c.last_lane.ensures) at c.int_in_range-lane.ensures.exact in
    lane_access_there c.args.scope.now.config.now c.args.scope.now.memories.now c.args.u.now _ _ _ c.int_in_range-log2_bytes.result
    c.int_in_range-lane.result c.in_ok-access.access drawn c.in_ok-access.ensures.exact drawn'
