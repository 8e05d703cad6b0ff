use Rattle.smith_program_examples.proofs.Common.{inl, refl}
use Rattle.smith_program_examples.proofs.ReferenceExamples as example
use Rattle.smith_program_examples.proofs.references.value_types.Goals as goal

pub returns : goal.returns
returns c = record {
  to_any_function = λ long. cc;
  without_null = λ enabled. example.none_without_features (enabled refl);
  to_a_shared_function = λ enabled. example.none_without_features (enabled refl);
  to_a_type = λ enabled. example.none_without_features (enabled refl);
  to_exactly_a_type = λ enabled. example.none_without_features (enabled refl);
  with_the_feature = λ long. inl refl;
  of_a_number = tt;
  of_a_reference = λ enabled. example.none_without_features (enabled refl);
}
