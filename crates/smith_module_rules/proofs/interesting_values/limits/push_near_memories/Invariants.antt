use Rattle.std.specs.Prelude.{take}
use Rattle.std.specs.List.{Any}
use Rattle.smith_module_rules.specs.CollectedValues.{AddsNumbers}
use Rattle.smith_module_rules.specs.InterestingValues.{IsNearMemory}
use Rattle.smith_module_rules.proofs.interesting_values.limits.push_near_memories.Given as goal

abbrev pub invariant-loop-memory : goal.invariant-loop-memory
invariant-loop-memory l = AddsNumbers (λ n. Any (IsNearMemory n) (take l.memory-index l.memories)) l.initial.numbers l.numbers
