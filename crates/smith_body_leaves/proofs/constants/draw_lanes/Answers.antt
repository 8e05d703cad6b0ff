use Rattle.smith_body_leaves.proofs.Common.{ap}
use Rattle.smith_body_leaves.specs.Constants.{alternating, doubles, floats, halves, integers32, integers64, lane_families, lanes_at}
use Rattle.smith_body_leaves.specs.Constants.{lanes_by, same_bytes}
use Rattle.smith_body_leaves.specs.declared.constant_tables.LaneFamily.TheVariants as lane
use Rattle.smith_body_leaves.proofs.ConstantLemmas.{both_listed, by_family, changed, listed}
use Rattle.smith_body_leaves.proofs.constants.draw_lanes.Goals as goal

pub returns-in-Bytes-clause-exact : goal.returns-in-Bytes-clause-exact
unfolding lanes_at
returns-in-Bytes-clause-exact c =
    by_family lanes_by lane.Bytes lane_families c.lane_families.result.now c.args.u.now _ _ c.choose.result lane.Bytes _
    c.lane_families.ensures (c.choose.ensures.exact lane.Bytes) c.in-Bytes.is
    (changed same_bytes _ _ _ _ c.arbitrary.ensures.exact (ap same_bytes c.from.ensures))

pub returns-in-Integers32-clause-exact : goal.returns-in-Integers32-clause-exact
unfolding lanes_at
returns-in-Integers32-clause-exact c =
    by_family lanes_by lane.Bytes lane_families c.lane_families.result.now c.args.u.now _ _ c.choose.result lane.Integers32 _
    c.lane_families.ensures (c.choose.ensures.exact lane.Bytes) c.in-Integers32.is
    (changed (λ number. alternating number number) _ _ _ _ (listed integers32 c.integers32.result.now _ _ _ c.integers32.ensures
    c.choose-number.ensures.exact) c.alternate.ensures)

pub returns-in-Integers64-clause-exact : goal.returns-in-Integers64-clause-exact
unfolding lanes_at
returns-in-Integers64-clause-exact c =
    by_family lanes_by lane.Bytes lane_families c.lane_families.result.now c.args.u.now _ _ c.choose.result lane.Integers64 _
    c.lane_families.ensures (c.choose.ensures.exact lane.Bytes) c.in-Integers64.is
    (both_listed halves integers64 _ _ _ _ _ _ (listed integers64 c.integers64.result.now _ _ _ c.integers64.ensures
    c.choose-low.ensures.exact) (listed integers64 c.integers64-in-Integers64.result.now _ _ _ c.integers64-in-Integers64.ensures
    c.choose-high.ensures.exact) c.join.ensures)

pub returns-in-Floats-clause-exact : goal.returns-in-Floats-clause-exact
unfolding lanes_at
returns-in-Floats-clause-exact c =
    by_family lanes_by lane.Bytes lane_families c.lane_families.result.now c.args.u.now _ _ c.choose.result lane.Floats _
    c.lane_families.ensures (c.choose.ensures.exact lane.Bytes) c.in-Floats.is
    (both_listed alternating floats _ _ _ _ _ _ (listed floats c.floats.result.now _ _ _ c.floats.ensures
    c.choose-low-in-Floats.ensures.exact) (listed floats c.floats-in-Floats.result.now _ _ _ c.floats-in-Floats.ensures
    c.choose-high-in-Floats.ensures.exact) c.alternate-in-Floats.ensures)

pub returns-in-Doubles-clause-exact : goal.returns-in-Doubles-clause-exact
unfolding lanes_at
returns-in-Doubles-clause-exact c =
    by_family lanes_by lane.Bytes lane_families c.lane_families.result.now c.args.u.now _ _ c.choose.result lane.Doubles _
    c.lane_families.ensures (c.choose.ensures.exact lane.Bytes) c.in-Doubles.is
    (both_listed halves doubles _ _ _ _ _ _ (listed doubles c.doubles.result.now _ _ _ c.doubles.ensures
    c.choose-low-in-Doubles.ensures.exact) (listed doubles c.doubles-in-Doubles.result.now _ _ _ c.doubles-in-Doubles.ensures
    c.choose-high-in-Doubles.ensures.exact) c.join-in-Doubles.ensures)
