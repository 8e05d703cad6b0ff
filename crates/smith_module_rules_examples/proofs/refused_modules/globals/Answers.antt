use Rattle.smith_module_rules_examples.proofs.Common.{arith, ◌≡◌, ◌+◌, [], ◌∷◌, true, false, pos, refl, sym, subst, same_Some, I32}
use Rattle.smith_module_rules_examples.proofs.Common.{GlobalType, I32Const, F64Const, GlobalGet, common_steps, IsConstExpr, global_context}
use Rattle.smith_module_rules_examples.proofs.Common.{global, one_number}
use Rattle.smith_module_rules_examples.proofs.refused_modules.globals.Goals as goal

float_is_no_number : IsConstExpr (global_context one_number 0) I32 (F64Const 0 ∷ []) → ⊥
float_is_no_number = grind (arith, common_steps)

pub returns : goal.returns
returns c = record {
  counted_from_the_first_definition = λ valid. let never : 0 ≡ 2 + 0 = (valid.globals 0 0 (I32Const (pos 5) ∷ []) refl).in_order in
      cc never;
  out_of_order = λ valid. let never : 1 ≡ 0 + 0 = (valid.globals 0 1 (I32Const (pos 1) ∷ []) refl).in_order in cc never;
  that_is_not_there = λ valid. cc (valid.globals 0 0 (I32Const (pos 7) ∷ []) refl).stands;
  from_a_float = λ valid.
      let one = valid.globals 0 0 (F64Const 0 ∷ []) refl in
      float_is_no_number (subst (λ (g : GlobalType). IsConstExpr (global_context one_number 0) g.val_type (F64Const 0 ∷ []))
      (sym (same_Some (global I32 true) one.global one.stands)) one.initialised);
  from_itself = λ valid.
      let (between, step, end) = (valid.globals 1 1 (GlobalGet 1 ∷ []) refl).initialised.steps in
      let (operands, (read, stands, before, constant, ty)) = step.typed in
      omega (arith, before);
  from_a_definition_without_gc = λ valid.
      let (between, step, end) = (valid.globals 1 1 (GlobalGet 0 ∷ []) refl).initialised.steps in
      let (operands, (read, stands, before, constant, ty)) = step.typed in
      omega (arith, before);
  from_one_that_changes = λ valid.
      let (between, step, end) = (valid.globals 1 1 (GlobalGet 0 ∷ []) refl).initialised.steps in
      let (operands, (read, stands, before, constant, ty)) = step.typed in
      let never : true ≡ false = subst (λ (g : GlobalType). g.mutable ≡ false) (sym (same_Some (global I32 true) read stands)) constant in
      cc never;
}
