use Rattle.smith_binary_program.proofs.Common.{ap, arith, Instr, length, List, refl, sym, ValType, ℕ, ◌∙◌, ◌≡◌}
use Rattle.smith_decode.specs.Modules.{Syntax}
use Rattle.smith_binary_program.proofs.examples.decoded_answers.Goals as goal

pub returns : goal.returns
returns c = record {
  itself = λ back. refl;
  without_functions = λ back none is.
      let bodies = sym none ∙ ap (λ (m : Syntax). m.bodies) is in
      let long : ◌≡◌ {A = ℕ} 0 1 = ap (λ (xs : List (List ValType × List Instr)). length xs) bodies in
      omega arith;
  memory = refl;
  feature_off = λ same. cc;
}
