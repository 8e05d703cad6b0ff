use Rattle.smith_types_examples.proofs.Common.{rules, arith, common_steps, refl, I32, GlobalGet, seeing, usual_features, without_gc}
use Rattle.smith_types_examples.proofs.Common.{constant_global, context_with, alone}
use Rattle.smith_types_examples.proofs.expressions.globals.Goals as goal

pub returns : goal.returns
returns c = record {
  read = alone (context_with usual_features 2) (GlobalGet 0) I32 I32 (refl, (constant_global I32, refl, omega arith, refl, refl)) tt
      (search rules);
  mutable_read = first_of (search rules, grind (arith, common_steps));
  read_by_a_table = alone (seeing (context_with usual_features 0) 2) (GlobalGet 0) I32 I32
      (refl, (constant_global I32, refl, omega arith, refl, refl)) tt (search rules);
  defined_read_by_a_table = first_of (search rules, grind (arith, common_steps));
  defined_read_by_a_segment = alone (seeing (context_with usual_features 0) 3) (GlobalGet 2) I32 I32
      (refl, (constant_global I32, refl, omega arith, refl, refl)) tt (search rules);
  imported_read_without_gc = alone (seeing (context_with without_gc 0) 2) (GlobalGet 0) I32 I32
      (refl, (constant_global I32, refl, omega arith, refl, refl)) tt (search rules);
  imported_read_by_a_global_without_gc = alone (seeing (context_with without_gc 0) 2) (GlobalGet 0) I32 I32
      (refl, (constant_global I32, refl, omega arith, refl, refl)) tt (search rules);
  defined_read_without_gc = first_of (search rules, grind (arith, common_steps));
}
