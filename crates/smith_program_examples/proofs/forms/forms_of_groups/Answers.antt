use Rattle.smith_program_examples.proofs.Common.{false≢true, refl, sym}
use Rattle.smith_program_examples.proofs.forms.forms_of_groups.Goals as goal

pub returns : goal.returns
returns c = record {
  of_a_function = λ stated. sym stated;
  of_an_open_function = λ enabled. false≢true (enabled refl);
  of_a_subtype = λ enabled. false≢true (enabled refl);
  of_no_type = λ enabled. false≢true enabled;
  with_the_feature = λ stated. refl;
}
