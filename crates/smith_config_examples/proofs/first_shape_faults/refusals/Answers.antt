use Rattle.smith_config_examples.proofs.Common.{[], ◌∷◌, Some, refl, rules, arith, ModuleShape, every_feature, open_type, empty_struct}
use Rattle.smith_config_examples.proofs.Common.{default_config, IsShort, of_types, first_bad_type}
use Rattle.smith_config_examples.proofs.ShapeFaultExamples as wrong
use Rattle.smith_config_examples.proofs.first_shape_faults.refusals.Goals as goal

short : IsShort (of_types (open_type (Some 0) empty_struct ∷ []))
short = search rules

pub returns-clause-for_its_use : goal.returns-clause-for_its_use
returns-clause-for_its_use c = (
  refl,
  first_bad_type ModuleShape default_config (of_types (open_type (Some 0) empty_struct ∷ [])) short
      (λ right. wrong.below_itself every_feature right.types),
)

pub returns-clause-for_another_use : goal.returns-clause-for_another_use
returns-clause-for_another_use c = λ (named, first). cc named

pub returns-clause-too_long_before_memory : goal.returns-clause-too_long_before_memory
returns-clause-too_long_before_memory c = λ tags long short. let few = short.tags in absurd (omega (arith, few, long))
