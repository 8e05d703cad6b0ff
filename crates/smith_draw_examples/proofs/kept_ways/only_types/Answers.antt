use Rattle.std.proofs.Common.{true, arith, refl}
use Rattle.smith_types.specs.ExampleContexts.{context_with}
use Rattle.smith_types.specs.ExampleFeatures.{usual_features}
use Rattle.smith_draw_types.specs.Below.{is_heap_below}
use Rattle.smith_draw_consts.proofs.OnlyTypeLemmas.{concrete_alone}
use Rattle.smith_draw_examples.proofs.kept_ways.only_types.Goals as goal

pub returns-clause-a_type_without_subtypes : goal.returns-clause-a_type_without_subtypes
returns-clause-a_type_without_subtypes c = concrete_alone (context_with usual_features 3) true 1 (omega arith) refl

pub returns-clause-another_type : goal.returns-clause-another_type
unfolding is_heap_below
returns-clause-another_type c = λ is. absurd (omega (arith, is.only 1 refl))

pub returns-clause-one_of_several : goal.returns-clause-one_of_several
unfolding is_heap_below
returns-clause-one_of_several c = λ is. absurd (omega (arith, is.only 2 refl))
