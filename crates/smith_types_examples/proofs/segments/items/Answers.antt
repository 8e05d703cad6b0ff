use Rattle.smith_types_examples.proofs.Common.{rules, [], ◌∷◌, refl, All-from_recursion, Concrete, Exact, Ref, RefNull, funcref, IsRefBelow}
use Rattle.smith_types_examples.proofs.Common.{IsItem, IsConstExpr, usual_features, final_type, shared_type, plain_func, plain, not_null}
use Rattle.smith_types_examples.proofs.Common.{context_types, context_with, IsRefBelow-refl, below_kind, alone}
use Rattle.smith_types.specs.Syntax.value_type.AbstractHeapType.TheVariants as heap
use Rattle.smith_types_examples.proofs.segments.items.Goals as goal

below : IsRefBelow context_types (not_null (Concrete 0)) funcref
below = record { heap = below_kind context_types 0 (final_type plain_func) refl; nullable = λ _. refl }

null : IsConstExpr (context_with usual_features 3) (Ref funcref) (RefNull (plain heap.Func) ∷ [])
null = alone (context_with usual_features 3) (RefNull (plain heap.Func)) (Ref funcref) (Ref funcref) (search rules)
    (IsRefBelow-refl context_types funcref) (search rules)

pub returns-clause-function : goal.returns-clause-function
returns-clause-function c = (0, refl, below)

pub returns-clause-list : goal.returns-clause-list
returns-clause-list c = All-from_recursion (IsItem (context_with usual_features 3) funcref) (0 ∷ 1 ∷ [])
    ((0, refl, below), ((0, refl, below), tt))

pub returns-clause-expression : goal.returns-clause-expression
returns-clause-expression c = (
  refl,
  All-from_recursion (IsConstExpr (context_with usual_features 3) (Ref funcref))
      ((RefNull (plain heap.Func) ∷ []) ∷ []) (null, tt),
)

pub returns-clause-exact_function : goal.returns-clause-exact_function
returns-clause-exact_function c = (0, refl, IsRefBelow-refl context_types (not_null (Exact 0)))

pub returns-clause-shared_function : goal.returns-clause-shared_function
returns-clause-shared_function c =
    (0, refl, record { heap = below_kind (shared_type plain_func ∷ []) 0 (shared_type plain_func) refl; nullable = λ never. refl })
