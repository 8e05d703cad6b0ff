use Rattle.smith_types_examples.proofs.Common.{rules, [], ◌∷◌, true, false, pos, refl, I32, Ref, I32Const, RefNull, RefI31}
use Rattle.smith_types_examples.proofs.Common.{ExternConvertAny, usual_features, plain, nullable, not_null, anyref, context_types}
use Rattle.smith_types_examples.proofs.Common.{context_with, IsRefBelow-refl, below_abstract, one_step, after_one}
use Rattle.smith_types.specs.Syntax.value_type.AbstractHeapType.TheVariants as heap
use Rattle.smith_types_examples.proofs.expressions.conversions.Goals as goal

pub returns-clause-null_given_out : goal.returns-clause-null_given_out
returns-clause-null_given_out c = after_one (context_with usual_features 2) (RefNull (plain heap.Any)) ExternConvertAny anyref anyref
    (Ref (nullable (plain heap.Extern))) (Ref (nullable (plain heap.Extern)))
    (search rules) (record { shared = false; nullable = true; taken = refl; given = refl })
    (IsRefBelow-refl context_types (nullable (plain heap.Any)))
    (IsRefBelow-refl context_types (nullable (plain heap.Extern))) (search rules)

pub returns-clause-i31_given_out : goal.returns-clause-i31_given_out
returns-clause-i31_given_out c =
    let context = context_with usual_features 2 in
    let i31 = Ref (not_null (plain heap.I31)) in
    let extern = Ref (not_null (plain heap.Extern)) in
    record {
      value = extern;
      steps = (
        I32 ∷ [],
        one_step context (I32Const (pos 1)) [] I32 [] [] (refl, refl) tt,
        (
          i31 ∷ [],
          one_step context RefI31 (I32 ∷ []) i31 [] (I32 ∷ []) (refl, refl) (tt, tt),
          (
            extern ∷ [],
            one_step context ExternConvertAny (Ref (not_null (plain heap.Any)) ∷ []) extern [] (i31 ∷ [])
                (record { shared = false; nullable = false; taken = refl; given = refl })
                (record { heap = below_abstract context_types false heap.I31 heap.Any refl; nullable = λ never. never }, tt),
            refl,
          ),
        ),
      );
      below = IsRefBelow-refl context_types (not_null (plain heap.Extern));
      enabled = search rules;
    }
