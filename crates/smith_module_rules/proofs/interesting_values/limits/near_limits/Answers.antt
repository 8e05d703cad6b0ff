use Rattle.std.specs.List.{Any}
use Rattle.smith_module_rules.specs.InterestingValues.{IsNearTable, IsNearMemory}
use Rattle.smith_module_rules.proofs.CollectedValueLemmas.{adds_either, all_added}
use Rattle.smith_module_rules.proofs.interesting_values.limits.near_limits.Goals as goal

pub returns-clause-near : goal.returns-clause-near
returns-clause-near c =
    all_added c.new-numbers.ensures
    (adds_either (λ n. Any (IsNearTable n) c.args.tables.now) (λ n. Any (IsNearMemory n) c.args.memories.now)
    c.in_ok-push_near_tables.ensures.adds c.in_ok-push_near_memories.ensures.adds)
