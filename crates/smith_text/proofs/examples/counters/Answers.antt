use Rattle.std.proofs.Common.{◌≤◌, arith}
use Rattle.smith_text.proofs.examples.counters.Goals as goal

pub returns-clause-kept : goal.returns-clause-kept
returns-clause-kept c before has = omega (arith, has)

pub returns-clause-one_lost : goal.returns-clause-one_lost
returns-clause-one_lost c keeps = let never : 3 ≤ 2 = keeps 3 (omega arith) in absurd (omega (arith, never))

pub returns-clause-written : goal.returns-clause-written
returns-clause-written c before after has low high = omega (arith, has, low, high)

pub returns-clause-one_missing : goal.returns-clause-one_missing
returns-clause-one_missing c writes = let never : 5 ≤ 4 = writes 2 5 (omega arith) (omega arith) (omega arith) in
    absurd (omega (arith, never))
