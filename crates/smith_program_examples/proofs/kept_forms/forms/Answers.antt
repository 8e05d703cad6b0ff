use Rattle.smith_program_examples.proofs.Common.{[], refl, trapping, ◌∷◌}
use Rattle.smith_program.specs.declared.program.Body.TheVariants as body
use Rattle.smith_program_examples.specs.ExamplePrograms.{after_an_import, constant, raw, raw_alone}
use Rattle.smith_program_examples.proofs.BodyExamples as example
use Rattle.smith_program_examples.proofs.kept_forms.forms.Goals as goal

pub returns : goal.returns
returns c = record {
  raw_bytes = example.all_bodies raw_alone (body.Raw ∷ []) refl (tt, tt);
  drawn_over_raw_bytes = λ all. (all.in_place 0 raw (constant 5) refl refl).0 tt;
  raw_for_unreachable = λ all. all.in_place 0 trapping body.Raw refl refl;
  after_an_imported_function = example.all_bodies after_an_import (constant 5 ∷ []) refl
      ((λ never. never, example.number_at after_an_import 0 5 example.type_after_import), tt);
  of_the_imported_type = λ all. example.result_missing after_an_import 0 trapping example.type_after_import
      (all.in_place 0 trapping (body.Drawn []) refl refl).1;
}
