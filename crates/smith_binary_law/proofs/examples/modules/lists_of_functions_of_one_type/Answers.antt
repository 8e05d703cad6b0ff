use Rattle.smith_binary_law.proofs.Common.{[], All-from_recursion, ap, Concrete, context_with, false, func_ref, IsRefBelow, itself, None}
use Rattle.smith_binary_law.proofs.Common.{plain, refl, subst, sym, table, TableType, usual_features, ◌∙◌, ◌∷◌, ◌≡◌}
use Rattle.std.proofs.Common.{lit<, rules}
use Rattle.std.proofs.lemmas.Option.{same_Some}
use Rattle.smith_types.specs.Syntax.value_type.AbstractHeapType.TheVariants as heap
use Rattle.smith_types.specs.Syntax.Kinds.{bottom}
use Rattle.smith_types.specs.Segments.{IsItem}
use Rattle.smith_types.specs.Subtyping.{IsBelow}
use Rattle.smith_types.specs.ExampleContexts.{context_types}
use Rattle.smith_types.specs.ExampleTypes.{final_type, nullable, plain_func}
use Rattle.smith_types.proofs.WalkLemmas.{by_cases_from_below}
use Rattle.smith_binary_law.proofs.examples.modules.lists_of_functions_of_one_type.Goals as goal

-- the type of all functions matches no type of a module
not_below : ¬ IsBelow context_types (plain heap.Func) (Concrete 0)
not_below below =
    let (t, at, shares, bottoms) = by_cases_from_below context_types (search rules) (plain heap.Func) (Concrete 0) below in
    let same : t ≡ final_type plain_func = sym (same_Some (final_type plain_func) t at) in
    let never : heap.Func ≡ heap.NoFunc = bottoms ∙ ap bottom same in
    cc

pub returns-clause-part : goal.returns-clause-part
returns-clause-part c = record {
  ty = record { heap_type = (refl, lit< tt); nullable = λ never. refl };
  ty_enabled = λ other. refl;
  items = All-from_recursion (IsItem (context_with usual_features 3) (nullable (Concrete 0))) (0 ∷ [])
      ((0, refl, record { heap = itself; nullable = λ never. refl }), tt);
  kind = record {
    table = table (nullable (Concrete 0)) 1 None;
    stands = refl;
    below = record { heap = itself; nullable = λ is. is };
    offset_valid = refl;
  };
}

pub returns-clause-in_the_abstract_syntax : goal.returns-clause-in_the_abstract_syntax
returns-clause-in_the_abstract_syntax c typed =
    let same : table (nullable (Concrete 0)) 1 None ≡ typed.mode.table = same_Some (table (nullable (Concrete 0)) 1 None) typed.mode.table
    typed.mode.stands in
    let below : IsRefBelow context_types (func_ref false) (nullable (Concrete 0)) =
    subst (λ (one : TableType). IsRefBelow context_types (func_ref false) one.element_type) (sym same) typed.mode.below in
    not_below below.heap
