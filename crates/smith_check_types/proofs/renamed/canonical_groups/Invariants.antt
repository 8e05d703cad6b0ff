use Rattle.std.proofs.Common.{◌≡◌, take}
use Rattle.smith_check_types.specs.TypeSections.{canonical_groups}
use Rattle.smith_check_types.proofs.renamed.canonical_groups.Given as goal

abbrev pub invariant-loop-group : goal.invariant-loop-group
invariant-loop-group l = l.made ≡ canonical_groups l.indices (take l.group-index l.groups)
