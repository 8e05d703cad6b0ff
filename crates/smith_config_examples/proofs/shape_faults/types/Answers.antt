use Rattle.smith_config_examples.proofs.Common.{rules, arith, common_steps, ◌≡◌, true, false, None, refl, funcref, anyref, constant_global}
use Rattle.smith_config_examples.proofs.Common.{table, every_feature}
use Rattle.smith_config_examples.proofs.ShapeFaultExamples as wrong
use Rattle.smith_config_examples.proofs.shape_faults.types.Goals as goal

pub returns : goal.returns
returns c = record {
  right = first_of (search rules, grind (arith, common_steps));
  below_itself = λ right. wrong.below_itself every_feature right.types;
  below_a_final_type = λ right. wrong.below_a_final_type every_feature right.types;
  below_another_kind = λ right. wrong.below_another_kind every_feature right.types;
  reference_after_its_group = λ right. wrong.reference_after_its_group every_feature right.types;
  global_of_no_type = first_of (search rules, grind (arith, common_steps));
  table_of_no_type = first_of (search rules, grind (arith, common_steps));
  function_of_no_type = first_of (search rules, grind (arith, common_steps));
  vector_without_its_feature = first_of (search rules, grind (arith, common_steps));
  shared_field_of_unshared = λ right. wrong.shared_field_of_unshared every_feature right.types;
  shared_global_of_unshared = λ right.
      let never : false ≡ true = right.globals 0 (record (constant_global anyref) { shared = true }) (omega arith) refl in
      cc never;
  shared_global_of_numbers = first_of (search rules, grind (arith, common_steps));
  shared_table_of_unshared = λ right.
      let never : false ≡ true = right.tables 0 (record (table funcref 1 None) { shared = true }) (omega arith) refl in
      cc never;
}
