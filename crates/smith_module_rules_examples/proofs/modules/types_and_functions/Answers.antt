use Rattle.smith_module_rules_examples.proofs.Common.{rules, [], ◌∷◌, refl, All-from_recursion, IsGroupValid, AreTypesValid}
use Rattle.smith_module_rules_examples.proofs.Common.{module_features, module_types, group_of, arrays, three_arrays}
use Rattle.smith_module_rules_examples.proofs.PartExamples.{one_function_valid, array_valid, array_below, group_valid}
use Rattle.smith_module_rules_examples.proofs.modules.types_and_functions.Goals as goal

two_types : AreTypesValid (module_features arrays) (module_types arrays)
two_types =
    let features = module_features arrays in
    record {
      covered = search rules;
      orderly = search rules;
      groups = All-from_recursion (IsGroupValid features arrays.types) (group_of 0 2 ∷ []) (
        group_valid features arrays.types (group_of 0 2) (
          (λ from below. array_valid features arrays.types 2 refl),
          ((λ from below. array_below features _ 2 refl), tt),
        ) (λ never. cc),
        tt,
      );
    }

three_types : AreTypesValid (module_features three_arrays) (module_types three_arrays)
three_types =
    let features = module_features three_arrays in
    let types = three_arrays.types in
    record {
      covered = search rules;
      orderly = search rules;
      groups = All-from_recursion (IsGroupValid features types) (group_of 0 2 ∷ group_of 2 3 ∷ []) (
        group_valid features types (group_of 0 2) (
          (λ from below. array_valid features types 2 refl),
          ((λ from below. array_below features _ 2 refl), ((λ from below. array_below features _ 2 refl), tt)),
        ) (λ never. cc),
        (
          group_valid features types (group_of 2 3) (
            (λ from below. array_valid features types 3 refl),
            ((λ from below. array_below features _ 3 refl), ((λ from below. array_below features _ 3 refl), tt)),
          ) (λ never. cc),
          tt,
        ),
      );
    }

pub returns-clause-an_array_and_one_below_it : goal.returns-clause-an_array_and_one_below_it
returns-clause-an_array_and_one_below_it c = search (rules, two_types)

pub returns-clause-two_below_one : goal.returns-clause-two_below_one
returns-clause-two_below_one c = search (rules, three_types)

pub returns-clause-a_function : goal.returns-clause-a_function
returns-clause-a_function c = one_function_valid
