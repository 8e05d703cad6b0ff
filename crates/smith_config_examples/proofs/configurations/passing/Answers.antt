use Rattle.smith_config_examples.proofs.Common.{arith, ◌≤◌}
use Rattle.smith_bytes.specs.declared.error.Count.TheVariants as counts
use Rattle.smith_config_examples.proofs.configurations.passing.Goals as goal

pub returns-clause-crossed : goal.returns-clause-crossed
returns-clause-crossed c = λ passes. let ordered : 3 ≤ 2 = passes.ordered counts.Tags tt in omega (arith, ordered)

pub returns-clause-too_many_types : goal.returns-clause-too_many_types
returns-clause-too_many_types c = λ passes. let few : 2147483649 ≤ 2147483648 = passes.few counts.Types in omega (arith, few)

pub returns-clause-two_tables_without_references : goal.returns-clause-two_tables_without_references
returns-clause-two_tables_without_references c = λ passes. let ordered : 2 ≤ 1 = passes.ordered counts.Tables tt in omega (arith, ordered)
