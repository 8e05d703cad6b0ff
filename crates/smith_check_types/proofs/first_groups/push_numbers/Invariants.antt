use Rattle.std.proofs.Common.{◌≡◌, ◌++◌, ◌-◌}
use Rattle.smith_check_types.specs.FirstGroups.{numbers_from}
use Rattle.smith_check_types.proofs.first_groups.push_numbers.Given as goal

abbrev pub invariant-loop-index : goal.invariant-loop-index
invariant-loop-index l = l.indices.items ≡ l.fn.indices.items ++ numbers_from l.start (l.index - l.start)
