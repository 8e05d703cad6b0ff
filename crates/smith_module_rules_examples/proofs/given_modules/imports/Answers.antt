use Rattle.smith_module_rules_examples.proofs.Common.{rules}
use Rattle.smith_module_rules_examples.proofs.PartExamples.{taking_types, taking_functions}
use Rattle.smith_module_rules_examples.proofs.given_modules.imports.Goals as goal

pub returns-clause-a_function_and_a_memory : goal.returns-clause-a_function_and_a_memory
returns-clause-a_function_and_a_memory c = search (rules, taking_types, taking_functions)

pub returns-clause-a_function_alone : goal.returns-clause-a_function_alone
returns-clause-a_function_alone c = search (rules, taking_types, taking_functions)
