use Rattle.smith_binary_program.proofs.Common.{ap, arith, Contents, Instr, length, List, None, Option, refl, Some, ValType, ℕ, ◌≡◌}
use Rattle.smith_binary_program.proofs.examples.same_programs.Goals as goal

pub returns : goal.returns
returns c = record {
  itself = record { parts = refl; functions = (record { locals = refl; instructions = refl }, tt) };
  of_another_type_size = record { parts = refl; functions = (record { locals = refl; instructions = refl }, tt) };
  that_starts = λ same. let never : ◌≡◌ {A = Option ℕ} None (Some 0) = ap (λ (contents : Contents). contents.start) same.parts in cc;
  with_a_local = λ same. let long : ◌≡◌ {A = ℕ} 0 1 = ap (λ (xs : List ValType). length xs) same.functions.0.locals in omega arith;
  with_another_body = λ same. let long : ◌≡◌ {A = ℕ} 1 0 = ap (λ (xs : List Instr). length xs) same.functions.0.instructions in omega arith;
  without_its_body = λ same. same.functions;
}
