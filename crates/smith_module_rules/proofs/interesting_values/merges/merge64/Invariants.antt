use Rattle.smith_module_rules.proofs.MergeLemmas.{IsMerging}
use Rattle.smith_module_rules.proofs.interesting_values.merges.merge64.Given as goal

abbrev pub invariant-loop-number : goal.invariant-loop-number
invariant-loop-number l = IsMerging l.constants l.near l.number-index l.made.items l.rest
