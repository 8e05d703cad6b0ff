use Rattle.smith_check.proofs.Common.{length, space_of, ◌+◌, ◌<◌, ◌≡◌}
use Rattle.std.proofs.Common.{drop}
use Rattle.smith_check.proofs.groups.are_few.Given as goal

abbrev pub invariant-loop-group : goal.invariant-loop-group
invariant-loop-group l = record {
  sum : l.count + length (space_of (drop l.group-index l.groups)).types ≡ length (space_of l.groups).types;
  few : l.count < 4294967295;
}
