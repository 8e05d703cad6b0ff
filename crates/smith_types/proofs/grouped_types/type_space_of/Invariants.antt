use Rattle.smith_types.proofs.Common.{take, ◌≡◌}
use Rattle.smith_types.specs.Groups.{space_of}
use Rattle.smith_types.proofs.grouped_types.type_space_of.Given as goal

abbrev pub invariant-loop-group : goal.invariant-loop-group
invariant-loop-group l = l.space ≡ space_of (take l.group-index l.groups)
