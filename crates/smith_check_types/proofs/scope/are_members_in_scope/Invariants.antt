use Rattle.std.proofs.Common.{drop}
use Rattle.smith_check_types.proofs.ScopeLemmas.{MembersLeft}
use Rattle.smith_check_types.proofs.scope.are_members_in_scope.Given as goal

abbrev pub invariant-loop-ty : goal.invariant-loop-ty
invariant-loop-ty l = MembersLeft l.end l.start l.group l.index (drop l.ty-index l.group)
