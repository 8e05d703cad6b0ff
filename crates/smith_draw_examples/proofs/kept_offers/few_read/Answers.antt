use Rattle.std.proofs.Common.{◌≡◌, [], ◌∷◌, refl, arith}
use Rattle.std.specs.Prelude.{None, Some}
use Rattle.smith_types.specs.ExampleContexts.{context_with}
use Rattle.smith_types.specs.ExampleEntities.{constant_global, variable_global}
use Rattle.smith_types.specs.ExampleFeatures.{usual_features}
use Rattle.smith_types.specs.Syntax.value_type.ValType.TheVariants.{I32, I64}
use Rattle.smith_draw_examples.proofs.FewItemExamples.{global_at}
use Rattle.smith_draw_examples.proofs.kept_offers.few_read.Goals as goal

pub returns-clause-a_mutable_global_with_a_type : goal.returns-clause-a_mutable_global_with_a_type
returns-clause-a_mutable_global_with_a_type c = λ few has are.
    let wrong : Some (Some I32) ≡ Some None = global_at (context_with usual_features 3) few (Some I32 ∷ Some I32 ∷ []) [] 1
    (variable_global I32) has are (omega arith) refl in
    cc

pub returns-clause-an_immutable_global_without : goal.returns-clause-an_immutable_global_without
returns-clause-an_immutable_global_without c = λ few has are.
    let wrong : Some None ≡ Some (Some I32) = global_at (context_with usual_features 3) few (None ∷ []) [] 0 (constant_global I32) has are
    (omega arith) refl in
    cc

pub returns-clause-a_global_of_another_type : goal.returns-clause-a_global_of_another_type
returns-clause-a_global_of_another_type c = λ few has are.
    let wrong : Some (Some I64) ≡ Some (Some I32) = global_at (context_with usual_features 3) few (Some I64 ∷ []) [] 0 (constant_global I32)
    has are (omega arith) refl in
    cc
