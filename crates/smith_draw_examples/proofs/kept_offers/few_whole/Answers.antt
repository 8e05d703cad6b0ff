use Rattle.std.proofs.Common.{◌≡◌, [], ◌∷◌, refl, arith}
use Rattle.std.specs.Prelude.{None, Some}
use Rattle.smith_types.specs.ExampleContexts.{context_with}
use Rattle.smith_types.specs.ExampleEntities.{constant_global}
use Rattle.smith_types.specs.ExampleFeatures.{usual_features}
use Rattle.smith_types.specs.Syntax.value_type.ValType.TheVariants.{I32, I64}
use Rattle.smith_draw_examples.proofs.FewItemExamples.{global_at}
use Rattle.smith_draw_examples.proofs.kept_offers.few_whole.Goals as goal

pub returns-clause-a_wrong_type : goal.returns-clause-a_wrong_type
returns-clause-a_wrong_type c = λ few has whole.
    let wrong : Some (Some I64) ≡ Some (Some I32) = global_at (context_with usual_features 3) few (Some I32 ∷ None ∷ Some I64 ∷ [])
    (0 ∷ 0 ∷ []) 2 (constant_global I32) has whole.read (omega arith) refl in
    cc
