use Rattle.std.proofs.Common.{drop}
use Rattle.smith_check_types.proofs.ScopeLemmas.{GroupsLeft}
use Rattle.smith_check_types.proofs.scope.are_groups_in_scope.Given as goal

abbrev pub invariant-loop-group : goal.invariant-loop-group
invariant-loop-group l = GroupsLeft l.groups l.start (drop l.group-index l.groups)
