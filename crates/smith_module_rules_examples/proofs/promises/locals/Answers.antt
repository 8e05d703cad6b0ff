use Rattle.smith_module_rules_examples.proofs.Common.{[], ◌∷◌, true, None, refl, inr, All-head, All-from_recursion, ValType, Ref, plain}
use Rattle.smith_module_rules_examples.proofs.Common.{not_null, below_kind, IsGranted, a_type, plain_function, module_context, one_function}
use Rattle.smith_module_rules_examples.proofs.Common.{one_number, with_references}
use Rattle.smith_types.specs.Syntax.value_type.AbstractHeapType.TheVariants as heap
use Rattle.smith_module_rules_examples.proofs.GrantedExamples.{any_not_granted, to_any}
use Rattle.smith_module_rules_examples.proofs.promises.locals.Goals as goal

abbrev to_function : ValType
to_function = Ref (not_null (plain heap.Func))

pub returns-clause-to_functions : goal.returns-clause-to_functions
returns-clause-to_functions c =
    let Granted = IsGranted with_references (module_context one_function) in
    let granted : Granted to_function =
    λ lacks. lacks.1 refl
    (inr (
      0,
      0,
      refl,
      record {
        heap = below_kind one_function.types 0 (a_type plain_function true None) refl;
        nullable = λ never. never;
      },
    )) in
    All-from_recursion Granted (to_function ∷ []) (granted, tt)

pub returns-clause-to_anything : goal.returns-clause-to_anything
returns-clause-to_anything c = λ held. any_not_granted one_number (All-head (IsGranted with_references (module_context one_number)) to_any
    [] held)
