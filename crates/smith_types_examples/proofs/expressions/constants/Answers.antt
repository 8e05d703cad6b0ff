use Rattle.smith_types_examples.proofs.Common.{rules, [], ◌∷◌, pos, refl, I32, I32Const, I32Add, usual_features, context_with, one_step}
use Rattle.smith_types_examples.proofs.expressions.constants.Goals as goal

pub returns-clause-sum : goal.returns-clause-sum
returns-clause-sum c =
    let context = context_with usual_features 2 in
    record {
      value = I32;
      steps = (
        I32 ∷ [],
        one_step context (I32Const (pos 1)) [] I32 [] [] (refl, refl) tt,
        (
          I32 ∷ I32 ∷ [],
          one_step context (I32Const (pos 2)) [] I32 (I32 ∷ []) [] (refl, refl) tt,
          (I32 ∷ [], one_step context I32Add (I32 ∷ I32 ∷ []) I32 [] (I32 ∷ I32 ∷ []) (refl, refl) (tt, (tt, tt)), refl),
        ),
      );
      below = tt;
      enabled = search rules;
    }
