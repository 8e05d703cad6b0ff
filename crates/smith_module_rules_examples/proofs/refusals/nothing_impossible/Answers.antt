use Rattle.smith_module_rules_examples.proofs.Common.{◌≡◌}
use Rattle.smith_bytes.specs.declared.error.Count.TheVariants as counts
use Rattle.smith_module_rules_examples.proofs.refusals.nothing_impossible.Goals as goal

pub returns-clause-a_minimum : goal.returns-clause-a_minimum
returns-clause-a_minimum c = λ asks. let never : 1 ≡ 0 = asks.no_minimums counts.Tags in cc never
