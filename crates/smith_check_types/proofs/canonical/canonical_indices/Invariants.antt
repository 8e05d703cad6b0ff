use Rattle.std.proofs.Common.{take}
use Rattle.smith_check_types.specs.FirstGroups.{known_start}
use Rattle.smith_check_types.proofs.CanonicalLemmas.{Known}
use Rattle.smith_check_types.proofs.canonical.canonical_indices.Given as goal

abbrev pub invariant-loop-group : goal.invariant-loop-group
invariant-loop-group l = Known (take l.group-index l.groups) l.indices.items (known_start l.starts)
