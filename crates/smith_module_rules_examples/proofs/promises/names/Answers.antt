use Rattle.smith_module_rules_examples.proofs.PromiseExamples.{not_distinct}
use Rattle.smith_module_rules_examples.proofs.promises.names.Goals as goal

pub returns-clause-one_name_twice : goal.returns-clause-one_name_twice
returns-clause-one_name_twice c = not_distinct
