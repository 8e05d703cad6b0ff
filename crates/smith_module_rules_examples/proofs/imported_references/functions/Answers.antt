use Rattle.smith_module_rules_examples.proofs.Common.{rules, [], ◌∷◌, false, refl, sym, subst, ap, ◌∙◌, same_Some, All-cons, itself}
use Rattle.smith_module_rules_examples.proofs.Common.{IsFuncTypeIndex, IsConstExpr, reference_to, nullable, Concrete, Exact, Ref}
use Rattle.smith_module_rules_examples.proofs.Common.{GlobalType, RefFunc, concrete_not_below_exact, global_context, one_function, global}
use Rattle.smith_module_rules_examples.proofs.Common.{refers_to_function, All}
use Rattle.smith_module_rules_examples.proofs.PartExamples.{alone, pushed_alone, function_types, function_at, functions_valid}
use Rattle.smith_module_rules_examples.proofs.PartExamples.{globals_defined}
use Rattle.smith_module_rules_examples.proofs.imported_references.functions.Goals as goal

both_valid : All (IsFuncTypeIndex one_function.types) (0 ∷ 0 ∷ [])
both_valid = All-cons (IsFuncTypeIndex one_function.types) 0 (0 ∷ []) (record { params = []; results = [] }, function_at) functions_valid

pub returns : goal.returns
returns c = record {
  an_imported_one_by_its_type =
      let m = refers_to_function (Concrete 0) 0 in
      let begins = alone (global_context m 0) (RefFunc 0) (reference_to (Concrete 0)) (Ref (nullable (Concrete 0))) (0, refl, refl, refl)
      (record { heap = itself; nullable = λ never. cc }) refl in
      search (
        rules,
        function_types,
        both_valid,
        globals_defined m (
          record {
            in_order = refl;
            global = global (Ref (nullable (Concrete 0))) false;
            stands = refl;
            initialised = begins;
          },
          tt,
        ),
      );
  an_imported_one_exactly = λ valid.
      let context = global_context (refers_to_function (Exact 0) 0) 0 in
      let exact = Ref (nullable (Exact 0)) in
      let one = valid.definitions.globals 0 0 (RefFunc 0 ∷ []) refl in
      let begins = subst (λ (g : GlobalType). IsConstExpr context g.val_type (RefFunc 0 ∷ []))
      (sym (same_Some (global exact false) one.global one.stands)) one.initialised in
      let below = pushed_alone context (RefFunc 0) (reference_to (Concrete 0)) exact
      (λ operands pushed typed. let (index, stands, none, given) = typed in
      given ∙ ap (λ i. reference_to (Concrete i)) (sym (same_Some 0 index stands))) begins in
      concrete_not_below_exact one_function.types 0 0 below.heap;
  a_defined_one_exactly =
      let m = refers_to_function (Exact 0) 1 in
      let begins = alone (global_context m 0) (RefFunc 1) (reference_to (Exact 0)) (Ref (nullable (Exact 0))) (0, refl, refl, refl)
      (record { heap = itself; nullable = λ never. cc }) refl in
      search (
        rules,
        function_types,
        both_valid,
        globals_defined m (
          record {
            in_order = refl;
            global = global (Ref (nullable (Exact 0))) false;
            stands = refl;
            initialised = begins;
          },
          tt,
        ),
      );
  none_exactly = λ valid.
      let (between, step, end) = (valid.definitions.globals 0 0 (RefFunc 2 ∷ []) refl).initialised.steps in
      let (index, stands, none, given) = step.typed in
      cc stands;
}
