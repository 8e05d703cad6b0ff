use Rattle.smith_judge.proofs.ExampleLemmas.{in_a_group, not_before, defined_after}
use Rattle.smith_judge.proofs.examples.origins.Goals as goal

pub returns-clause-in_a_group : goal.returns-clause-in_a_group
returns-clause-in_a_group c = in_a_group

pub returns-clause-not_before : goal.returns-clause-not_before
returns-clause-not_before c = not_before

pub returns-clause-defined : goal.returns-clause-defined
returns-clause-defined c = defined_after
