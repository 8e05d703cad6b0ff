use Rattle.std.proofs.Common.{◌≡◌}
use Rattle.std.specs.Prelude.{map, take}
use Rattle.smith_module_rules.proofs.CollectedValueLemmas.{low_half}
use Rattle.smith_module_rules.proofs.interesting_values.narrow_values.Given as goal

abbrev pub invariant-loop-number : goal.invariant-loop-number
invariant-loop-number l = l.halves.items ≡ map low_half (take l.number-index l.near)
