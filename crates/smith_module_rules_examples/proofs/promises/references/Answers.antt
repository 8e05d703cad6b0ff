use Rattle.smith_module_rules_examples.proofs.Common.{rules, arith, common_steps, [], ◌∷◌, false, refl, inl, All-nil, All-head}
use Rattle.smith_module_rules_examples.proofs.Common.{All-from_recursion, itself, Concrete, ValType, I32, Ref, Expressions, empty_struct}
use Rattle.smith_module_rules_examples.proofs.Common.{plain, not_null, grounded_at, default_config, IsGranted, HasGroundedItems, final}
use Rattle.smith_module_rules_examples.proofs.Common.{taking, ModuleParts, module_context, one_number, one_table, passive_elements}
use Rattle.smith_module_rules_examples.proofs.Common.{with_references, holding_reference}
use Rattle.smith_types.specs.Syntax.value_type.AbstractHeapType.TheVariants as heap
use Rattle.smith_module_rules_examples.proofs.GrantedExamples.{any_not_granted, any_taken, to_any}
use Rattle.smith_module_rules_examples.proofs.promises.references.Goals as goal

-- a struct type, and a global for a reference to it
abbrev beside : ModuleParts
beside = holding_reference (final empty_struct ∷ []) (Concrete 0)

abbrev to_struct : ValType
to_struct = Ref (not_null (Concrete 0))

pub returns : goal.returns
returns c = record {
  a_number = first_of (search rules, grind (arith, common_steps));
  that_may_be_null = first_of (search rules, grind (arith, common_steps));
  to_a_struct =
      let Granted = IsGranted with_references (module_context beside) in
      let granted : Granted to_struct =
      λ lacks. lacks.1 refl (inl (0, grounded_at beside.types false (Concrete 0) 0 (final empty_struct) refl refl itself)) in
      record {
        values = All-from_recursion Granted (to_struct ∷ []) (granted, tt);
        elems = All-nil (HasGroundedItems with_references (module_context beside));
      };
  to_a_struct_by_default = λ held. All-head (IsGranted default_config (module_context beside)) to_struct [] held.values
      (refl, λ on. absurd cc);
  in_a_global = λ held. any_not_granted (holding_reference [] (plain heap.Any))
      (All-head (IsGranted with_references (module_context (holding_reference [] (plain heap.Any)))) to_any [] held.values);
  in_a_table = λ held. any_not_granted one_table (All-head (IsGranted with_references (module_context one_table)) to_any [] held.values);
  in_a_parameter = λ held.
      let m : ModuleParts = record one_number { types = final (taking to_any) ∷ [] } in
      any_taken m (All-head (IsGranted with_references (module_context m)) to_any (I32 ∷ []) held.values);
  in_a_segment = λ held.
      any_not_granted one_number (All-head (HasGroundedItems with_references (module_context one_number))
      (record (passive_elements (Expressions [])) { ty = not_null (plain heap.Any) }) [] held.elems);
  in_a_local = first_of (search rules, grind (arith, common_steps));
}
