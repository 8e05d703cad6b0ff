use Rattle.smith_module_rules.specs.InterestingValues.{IsNearTable}
use Rattle.smith_module_rules.proofs.CollectedValueLemmas.{adds_last, adds_next}
use Rattle.smith_module_rules.proofs.interesting_values.limits.push_near_tables.Goals as goal

pub loop-table-preserved : goal.loop-table-preserved
loop-table-preserved c = adds_next (λ table n. IsNearTable n table) c.args.tables.now c.loop-table.table-index _ c.loop-table-test.true
    c.loop-table.invariant c.in_ok-push_near_table.ensures.adds

pub returns-clause-adds : goal.returns-clause-adds
returns-clause-adds c = adds_last (λ table n. IsNearTable n table) c.args.tables.now c.loop-table.table-index c.loop-table-test.false
    c.loop-table.invariant
