use Rattle.smith_module_rules_examples.proofs.Common.{rules, arith, [], refl, All-head, plain, default_config, FixesImports, IsGranted}
use Rattle.smith_module_rules_examples.proofs.Common.{module_context, HoldsGranted, HoldsNonNullable, one_number, with_references}
use Rattle.smith_module_rules_examples.proofs.Common.{holding_reference, for_exports, exporting, memories_in_and_out}
use Rattle.smith_bytes.specs.declared.error.Which.TheVariants as which
use Rattle.smith_types.specs.Syntax.value_type.AbstractHeapType.TheVariants as heap
use Rattle.smith_module_rules_examples.proofs.GrantedExamples.{any_not_granted, to_any}
use Rattle.smith_module_rules_examples.proofs.PromiseExamples.{not_distinct, past_the_table}
use Rattle.smith_module_rules_examples.proofs.ShapeExamples.{no_imports_fixed}
use Rattle.smith_module_rules_examples.proofs.promises.asked_for.Goals as goal

exports_fix_none : FixesImports (for_exports exporting default_config) → ⊥
exports_fix_none = search rules

pub returns-clause-one_name_twice : goal.returns-clause-one_name_twice
returns-clause-one_name_twice c = λ kept. not_distinct (kept.names refl no_imports_fixed)

pub returns-clause-one_name_twice_beside_exports_of_a_shape : goal.returns-clause-one_name_twice_beside_exports_of_a_shape
returns-clause-one_name_twice_beside_exports_of_a_shape c = λ kept. not_distinct (kept.names refl exports_fix_none)

pub returns-clause-a_trap : goal.returns-clause-a_trap
returns-clause-a_trap c =
    λ kept. past_the_table (record { elems = (kept.inside refl).elems; data_segments = (kept.inside refl).data_segments })

-- no shape in use holds a non-nullable reference
none_given : HoldsNonNullable with_references → ⊥
none_given (which.AvailableImports, holds) = absurd holds
none_given (which.Exports, holds) = absurd holds
none_given (which.ModuleShape, holds) = absurd holds

none_exported : HoldsNonNullable (for_exports memories_in_and_out with_references) → ⊥
none_exported (which.AvailableImports, holds) = absurd holds
none_exported (which.Exports, (place, value, inside, at, strict)) = omega (arith, inside)
none_exported (which.ModuleShape, holds) = absurd holds

unheld : ¬ HoldsGranted with_references (holding_reference [] (plain heap.Any))
unheld held = any_not_granted (holding_reference [] (plain heap.Any))
    (All-head (IsGranted with_references (module_context (holding_reference [] (plain heap.Any)))) to_any [] held.values)

pub returns-clause-a_reference_that_nothing_grounds : goal.returns-clause-a_reference_that_nothing_grounds
returns-clause-a_reference_that_nothing_grounds c = λ kept. unheld (kept.granted none_given)

pub returns-clause-the_same_beside_another_shape : goal.returns-clause-the_same_beside_another_shape
returns-clause-the_same_beside_another_shape c =
    λ kept. unheld (record { values = (kept.granted none_exported).values; elems = (kept.granted none_exported).elems })

pub returns-clause-a_local_that_nothing_grounds : goal.returns-clause-a_local_that_nothing_grounds
returns-clause-a_local_that_nothing_grounds c =
    λ kept. any_not_granted one_number (All-head (IsGranted with_references (module_context one_number)) to_any [] kept.granted_locals)
