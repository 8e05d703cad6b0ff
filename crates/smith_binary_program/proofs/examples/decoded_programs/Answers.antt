use Rattle.smith_binary_program.proofs.Common.{[], ap, arith, get_or, Instr, length, List, refl, ValType, ℕ, ◌≡◌}
use Rattle.smith_binary_program.proofs.examples.decoded_programs.Goals as goal

pub returns : goal.returns
returns c = record {
  functions = refl;
  with_the_checks = refl;
  without_the_checks = λ same.
      let long : ◌≡◌ {A = ℕ} 10 1 = ap (λ (functions : List (List ValType × List Instr)). length (get_or functions 0 ([], [])).1) same in
      omega arith;
  without_custom_sections = refl;
}
