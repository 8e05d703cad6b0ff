use Rattle.smith_types_examples.proofs.Common.{rules, [], ◌∷◌, pos, refl, Concrete, I32, I64, Ref, I8, I16, Val, I32Const, StructNew}
use Rattle.smith_types_examples.proofs.Common.{StructNewDefault, IsStructAt, usual_features, final_type, struct, constant, variable}
use Rattle.smith_types_examples.proofs.Common.{not_null, context_types, context_with, IsRefBelow-refl, alone, after_one}
use Rattle.smith_types_examples.proofs.expressions.structs.Goals as goal

struct_at : IsStructAt context_types 1 (constant I8 ∷ [])
struct_at = (final_type (struct (constant I8 ∷ [])), refl, refl)

pub returns-clause-of_its_field : goal.returns-clause-of_its_field
returns-clause-of_its_field c = after_one (context_with usual_features 2) (I32Const (pos 1)) (StructNew 1) I32 I32
    (Ref (not_null (Concrete 1))) (Ref (not_null (Concrete 1))) (refl, refl)
    (constant I8 ∷ [], struct_at, refl, refl) tt (IsRefBelow-refl context_types (not_null (Concrete 1))) (search rules)

pub returns-clause-of_its_fields : goal.returns-clause-of_its_fields
returns-clause-of_its_fields c =
    (constant I16 ∷ variable (Val I64) ∷ [], (final_type (struct (constant I16 ∷ variable (Val I64) ∷ [])), refl, refl), refl, refl)

pub returns-clause-of_defaults : goal.returns-clause-of_defaults
returns-clause-of_defaults c = alone (context_with usual_features 2) (StructNewDefault 1) (Ref (not_null (Concrete 1)))
    (Ref (not_null (Concrete 1)))
    (constant I8 ∷ [], struct_at, search rules, refl, refl) (IsRefBelow-refl context_types (not_null (Concrete 1))) (search rules)
