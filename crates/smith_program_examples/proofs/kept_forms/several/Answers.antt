use Rattle.smith_program_examples.proofs.Common.{[], arith, default_config, empty_module, refl, trapping, ℕ, ◌∷◌, ◌≡◌}
use Rattle.smith_program.specs.declared.program.Body.TheVariants as body
use Rattle.smith_program_examples.specs.ExamplePrograms.{constant, raw_between}
use Rattle.smith_program_examples.proofs.BodyExamples as example
use Rattle.smith_program_examples.proofs.kept_forms.several.Goals as goal

pub returns : goal.returns
returns c = record {
  none = example.all_bodies (empty_module default_config) [] refl tt;
  in_order = example.all_bodies raw_between (constant 5 ∷ body.Raw ∷ constant 7 ∷ []) refl (
    (λ never. never, example.number_at raw_between 0 5 (0, refl, example.number_alone)),
    (tt, ((λ never. never, example.number_at raw_between 2 7 (0, refl, example.number_alone)), tt)),
  );
  in_another_order = λ all. all.in_place 0 trapping body.Raw refl refl;
  one_too_few = λ all. let few : ◌≡◌ {A = ℕ} 2 3 = all.each in omega arith;
  one_too_many = λ all. let many : ◌≡◌ {A = ℕ} 3 2 = all.each in omega arith;
}
