use Rattle.smith_module_rules_examples.proofs.Common.{arith, ◌≤◌, refl}
use Rattle.smith_bytes.specs.declared.error.Count.TheVariants as counts
use Rattle.smith_module_rules_examples.proofs.ShapeExamples.{no_exports_fixed}
use Rattle.smith_module_rules_examples.proofs.bounds.most.Goals as goal

pub returns-clause-a_type_too_many : goal.returns-clause-a_type_too_many
returns-clause-a_type_too_many c = λ bounds. let never : 2 ≤ 1 = bounds.most counts.Types tt in omega (arith, never)

pub returns-clause-an_available_import_too_many : goal.returns-clause-an_available_import_too_many
returns-clause-an_available_import_too_many c = λ bounds. let never : 2 ≤ 1 = bounds.most counts.Imports tt in omega (arith, never)

pub returns-clause-a_function_too_many : goal.returns-clause-a_function_too_many
returns-clause-a_function_too_many c = λ bounds. let never : 1 ≤ 0 = bounds.most counts.Funcs tt in omega (arith, never)

pub returns-clause-an_element_too_many : goal.returns-clause-an_element_too_many
returns-clause-an_element_too_many c = λ bounds. let never : 3 ≤ 2 = bounds.most counts.Elements tt in omega (arith, never)

pub returns-clause-an_export_too_many : goal.returns-clause-an_export_too_many
returns-clause-an_export_too_many c = λ bounds. let never : 1 ≤ 0 = bounds.most counts.Exports (no_exports_fixed, refl) in
    omega (arith, never)
