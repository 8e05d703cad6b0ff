use Rattle.smith_types.proofs.Common.{length, suc, take, ◌-◌, ◌<◌, ◌≤◌}
use Rattle.smith_types.specs.KindCounts.{is_in, count_where}
use Rattle.smith_types.proofs.type_space.TypeSpace.index_in.Given as goal

abbrev pub invariant-loop-low : goal.invariant-loop-low
invariant-loop-low l = record {
  ordered : l.low ≤ l.high;
  inside : l.high < length l.self.types;
  least : count_where (is_in l.set) (take l.low l.self.types) ≤ l.place;
  most : l.place < count_where (is_in l.set) (take (suc l.high) l.self.types);
}

abbrev pub decreases-loop-low : goal.decreases-loop-low
decreases-loop-low l = l.high - l.low
