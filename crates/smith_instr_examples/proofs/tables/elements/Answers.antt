use Rattle.smith_instr_examples.proofs.Common.{functions, refl, wide_functions}
use Rattle.smith_instr_examples.specs.ExampleManaged.{externals}
use Rattle.smith_instr_examples.proofs.tables.elements.Goals as goal

pub returns-clause-get : goal.returns-clause-get
returns-clause-get c = (functions, refl, (refl, refl))

pub returns-clause-get_of_external_references : goal.returns-clause-get_of_external_references
returns-clause-get_of_external_references c = (externals, refl, (refl, refl))

pub returns-clause-get_of_a_wide_table : goal.returns-clause-get_of_a_wide_table
returns-clause-get_of_a_wide_table c = (wide_functions, refl, (refl, refl))

pub returns-clause-set_of_a_wide_table : goal.returns-clause-set_of_a_wide_table
returns-clause-set_of_a_wide_table c = (wide_functions, refl, (refl, refl))
