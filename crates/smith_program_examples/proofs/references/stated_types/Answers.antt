use Rattle.smith_program_examples.proofs.Common.{[], All-cons, All-nil, arith, Ref, refl}
use Rattle.smith_types.specs.ExampleFeatures.{no_features}
use Rattle.smith_types.specs.Flags.{funcref}
use Rattle.smith_binary_program.specs.Forms.{IsValFormEnabled}
use Rattle.smith_program_examples.specs.ExamplePrograms.{indexed}
use Rattle.smith_program_examples.proofs.ReferenceExamples as example
use Rattle.smith_program_examples.proofs.references.stated_types.Goals as goal

pub returns : goal.returns
returns c = record {
  of_a_block = refl;
  of_a_block_of_a_type = refl;
  of_a_select = refl;
  of_a_select_without_a_type = refl;
  enabled = All-cons (IsValFormEnabled no_features) (Ref funcref) [] (λ long. cc) (All-nil (IsValFormEnabled no_features));
  disabled = λ enabled. example.none_without_features (enabled 0 (Ref indexed) (omega arith) refl);
}
