use Rattle.smith_types_examples.proofs.Common.{rules, false, pos, refl, Concrete, I32, Ref, I32Const, RefNull, RefFunc, RefI31, funcref}
use Rattle.smith_types_examples.proofs.Common.{usual_features, plain, not_null, anyref, context_types, context_with, IsRefBelow-refl}
use Rattle.smith_types_examples.proofs.Common.{below_abstract, alone, after_one}
use Rattle.smith_types.specs.Syntax.value_type.AbstractHeapType.TheVariants as heap
use Rattle.smith_types_examples.proofs.expressions.references.Goals as goal

pub returns-clause-null_function : goal.returns-clause-null_function
returns-clause-null_function c = alone (context_with usual_features 2) (RefNull (plain heap.Func)) (Ref funcref) (Ref funcref)
    (search rules) (IsRefBelow-refl context_types funcref) (search rules)

pub returns-clause-function_below : goal.returns-clause-function_below
returns-clause-function_below c = alone (context_with usual_features 2) (RefFunc 1) (Ref (not_null (Concrete 0)))
    (Ref (not_null (Concrete 0))) (0, refl, refl, refl) (IsRefBelow-refl context_types (not_null (Concrete 0))) (search rules)

pub returns-clause-i31 : goal.returns-clause-i31
returns-clause-i31 c = after_one (context_with usual_features 2) (I32Const (pos 1)) RefI31 I32 I32 (Ref (not_null (plain heap.I31))) anyref
    (refl, refl) (refl, refl) tt
    (record { heap = below_abstract context_types false heap.I31 heap.Any refl; nullable = λ _. refl }) (search rules)
