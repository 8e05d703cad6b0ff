use Rattle.smith_program_examples.proofs.Common.{[], arith, false≢true, refl, trapping, ℕ, ◌<◌, ◌∷◌, ◌≡◌}
use Rattle.std.specs.List.{Contains}
use Rattle.smith_instr.specs.declared.instr.Instr.TheVariants as instr
use Rattle.smith_instr.specs.declared.memory.MemoryInstr.TheVariants as memory
use Rattle.smith_program.specs.Valid.{NameData}
use Rattle.smith_program.specs.declared.program.Body.TheVariants as body
use Rattle.smith_program_examples.specs.ExamplePrograms.{constant}
use Rattle.smith_program_examples.proofs.ValidExamples as example
use Rattle.smith_program_examples.proofs.valid.programs.Goals as goal

pub returns : goal.returns
returns c = record {
  without_functions = example.empty_valid;
  with_a_function = example.function_valid;
  of_an_invalid_module = λ program. let none : ◌≡◌ {A = ℕ} 0 1 = program.valid.bodies.each in omega arith;
  without_its_body = λ program. let none : ◌≡◌ {A = ℕ} 0 1 = program.typed.each in omega arith;
  with_a_value_left = λ program. example.value_left (program.typed.in_place 0 trapping (constant 1) refl refl).1;
  of_a_disabled_feature = λ program. false≢true (program.enabled 0 body.Raw (omega arith) 0 instr.Nop (omega arith));
  of_an_undeclared_function = λ program. let there : Contains {X = ℕ} [] 0 = program.declared 0 body.Raw (omega arith) 0 instr.Nop
      (omega arith) in let none = there.1 in omega arith;
  of_uncounted_data = λ program.
      let named : NameData (body.Drawn (instr.Memory (memory.DataDrop 0) ∷ []) ∷ []) = (
        0,
        body.Drawn (instr.Memory (memory.DataDrop 0) ∷ []),
        omega arith,
        refl,
        (
          0,
          instr.Memory (memory.DataDrop 0),
          omega arith,
          refl,
          refl,
        ),
      ) in
      let none : 0 < 0 = (program.data_count named).some in
      omega arith;
}
