use Rattle.smith_draw_consts.proofs.Common.{get_or, length, ◌-◌, ◌<◌, ◌≤◌}
use Rattle.smith_draw_consts.proofs.block_counts.block_of.Given as goal

abbrev pub invariant-loop-end : goal.invariant-loop-end
invariant-loop-end l = record {
  inside : l.block < l.end;
  bound : l.end ≤ length l.starts;
  reached : get_or l.starts l.block 0 ≤ l.place;
  past : l.end < length l.starts → l.place < get_or l.starts l.end 0;
}

abbrev pub decreases-loop-end : goal.decreases-loop-end
decreases-loop-end l = l.end - l.block
