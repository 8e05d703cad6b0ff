use Rattle.smith_module_rules_examples.proofs.Common.{refl, foo_type, quux_type}
use Rattle.smith_module_rules_examples.proofs.ShapeExamples.{same_function}
use Rattle.smith_module_rules_examples.proofs.shapes.types_of_exports.Goals as goal

pub returns-clause-the_same_function_type : goal.returns-clause-the_same_function_type
returns-clause-the_same_function_type c = same_function _ _ 0 1 foo_type.composite_type.inner refl refl

pub returns-clause-the_same_type_of_a_tag : goal.returns-clause-the_same_type_of_a_tag
returns-clause-the_same_type_of_a_tag c = same_function _ _ 0 0 quux_type.composite_type.inner refl refl
