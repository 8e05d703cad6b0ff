use Rattle.smith_program_examples.proofs.Common.{ap, arith, FuncType, length, refl, ℕ, ◌≡◌}
use Rattle.smith_program_examples.specs.ExamplePrograms.{after_an_import, gives_nothing, gives_number}
use Rattle.smith_program_examples.proofs.BodyExamples as example
use Rattle.smith_program_examples.proofs.types.functions.Goals as goal

pub returns : goal.returns
returns c = record {
  alone = example.only_type;
  after_an_imported_one = example.type_after_import;
  after_an_imported_memory = (0, refl, example.number_alone);
  of_the_imported_type = λ there.
      let same = example.type_alone after_an_import 0 gives_number gives_nothing example.type_after_import there in
      let never : ◌≡◌ {A = ℕ} 0 1 = ap (λ (function : FuncType). length function.results) same in
      omega arith;
  past_the_last = example.none_after_last;
}
