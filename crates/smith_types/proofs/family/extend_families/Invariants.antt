use Rattle.smith_types.proofs.Common.{length, ◌+◌, ◌-◌}
use Rattle.smith_types.specs.Families.{AreFamilies}
use Rattle.smith_types.proofs.family.extend_families.Given as goal

abbrev pub invariant-loop-families : goal.invariant-loop-families
invariant-loop-families l = AreFamilies l.types l.families.items

abbrev pub decreases-loop-families : goal.decreases-loop-families
decreases-loop-families l = length l.types + 1 - length l.families.items
