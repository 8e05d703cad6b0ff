use Rattle.smith_program_examples.proofs.Common.{arith, false≢true, refl, ℕ, ◌≡◌}
use Rattle.smith_program_examples.proofs.forms.accesses.Goals as goal

pub returns : goal.returns
returns c = record {
  of_the_first_memory = λ other. absurd (other refl);
  of_the_second = λ enabled. false≢true (enabled (λ (first : ◌≡◌ {A = ℕ} 1 0). omega (arith, first)));
  of_none = λ other. absurd (other refl);
}
