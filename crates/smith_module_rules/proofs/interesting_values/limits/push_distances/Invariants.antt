use Rattle.std.specs.Prelude.{take}
use Rattle.std.specs.List.{Any}
use Rattle.smith_module_rules.specs.CollectedValues.{AddsNumbers, IsBeside, distances}
use Rattle.smith_module_rules.proofs.interesting_values.limits.push_distances.Given as goal

abbrev pub invariant-loop-distance : goal.invariant-loop-distance
invariant-loop-distance l = AddsNumbers (λ n. Any (λ distance. IsBeside l.bytes distance n) (take l.distance-index distances))
    l.initial.numbers l.numbers
