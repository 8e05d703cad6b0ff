use Rattle.smith_program_examples.proofs.Common.{trapping}
use Rattle.smith_program_examples.specs.ExamplePrograms.{after_an_import}
use Rattle.smith_program_examples.proofs.BodyExamples as example
use Rattle.smith_program_examples.proofs.types.bodies.Goals as goal

pub returns : goal.returns
returns c = record {
  after_an_imported_function = example.number_at after_an_import 0 5 example.type_after_import;
  of_the_imported_type = example.result_missing after_an_import 0 trapping example.type_after_import;
  past_the_last = λ body. example.none_after_last body.function body.there;
  with_its_local = example.local_read;
  without_a_local = example.local_missing;
}
