use Rattle.smith_binary_program.proofs.Common.{ap, arith, Instr, length, List, refl, ℕ, ◌≡◌}
use Rattle.smith_binary_program.proofs.examples.same_instructions.Goals as goal

pub returns : goal.returns
returns c = record {
  equal = refl;
  others = λ same. let long : ◌≡◌ {A = ℕ} 1 0 = ap (λ (xs : List Instr). length xs) same in omega arith;
  with_the_checks = refl;
  without_the_checks = λ same. let long : ◌≡◌ {A = ℕ} 10 1 = ap (λ (xs : List Instr). length xs) same in omega arith;
  raw_bytes = tt;
}
