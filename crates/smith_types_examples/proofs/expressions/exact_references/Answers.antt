use Rattle.smith_types_examples.proofs.Common.{rules, [], ◌∷◌, pos, refl, Exact, I32, Ref, I8, I32Const, RefFunc, StructNew, every_feature}
use Rattle.smith_types_examples.proofs.Common.{final_type, struct, constant, not_null, context_types, context_with, IsRefBelow-refl, alone}
use Rattle.smith_types_examples.proofs.Common.{after_one}
use Rattle.smith_types_examples.proofs.expressions.exact_references.Goals as goal

pub returns-clause-of_a_struct : goal.returns-clause-of_a_struct
returns-clause-of_a_struct c = after_one (context_with every_feature 2) (I32Const (pos 1)) (StructNew 1) I32 I32 (Ref (not_null (Exact 1)))
    (Ref (not_null (Exact 1))) (refl, refl)
    (constant I8 ∷ [], (final_type (struct (constant I8 ∷ [])), refl, refl), refl, refl) tt
    (IsRefBelow-refl context_types (not_null (Exact 1))) (search rules)

pub returns-clause-of_a_defined_function : goal.returns-clause-of_a_defined_function
returns-clause-of_a_defined_function c = alone (context_with every_feature 2) (RefFunc 1) (Ref (not_null (Exact 0)))
    (Ref (not_null (Exact 0))) (0, refl, refl, refl) (IsRefBelow-refl context_types (not_null (Exact 0))) (search rules)
