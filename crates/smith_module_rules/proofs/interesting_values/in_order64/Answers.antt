use Rattle.std.proofs.lemmas.List.Filters.{dedup_is}
use Rattle.smith_module_rules.proofs.CollectedValueLemmas.{in_order}
use Rattle.smith_module_rules.proofs.interesting_values.in_order64.Goals as goal

pub returns-clause-order : goal.returns-clause-order
returns-clause-order c = in_order _ _ _ c.in_ok-sort.ensures.permutation c.in_ok-sort.ensures.sorted
    (dedup_is _ _ _ c.dedup.ensures.filtered)
