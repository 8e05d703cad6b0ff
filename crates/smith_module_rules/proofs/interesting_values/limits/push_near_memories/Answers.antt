use Rattle.smith_module_rules.specs.InterestingValues.{IsNearMemory}
use Rattle.smith_module_rules.proofs.CollectedValueLemmas.{adds_last, adds_next}
use Rattle.smith_module_rules.proofs.interesting_values.limits.push_near_memories.Goals as goal

pub loop-memory-preserved : goal.loop-memory-preserved
loop-memory-preserved c = adds_next (λ memory n. IsNearMemory n memory) c.args.memories.now c.loop-memory.memory-index _
    c.loop-memory-test.true c.loop-memory.invariant c.in_ok-push_near_memory.ensures.adds

pub returns-clause-adds : goal.returns-clause-adds
returns-clause-adds c = adds_last (λ memory n. IsNearMemory n memory) c.args.memories.now c.loop-memory.memory-index
    c.loop-memory-test.false c.loop-memory.invariant
