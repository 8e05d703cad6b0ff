use Rattle.smith_module_rules_examples.proofs.Common.{rules, arith, [], ◌∷◌, Some, None, pos, false, sym, subst, refl, same_Some, funcref}
use Rattle.smith_module_rules_examples.proofs.Common.{common_steps, IsConstExpr, nullable, plain, TableType, Ref, I32Const, GlobalGet}
use Rattle.smith_module_rules_examples.proofs.Common.{RefNull, IsRefBelow-refl, by_cases_from_below, each_place, IsTableDefined}
use Rattle.smith_module_rules_examples.proofs.Common.{table_context, table, global, no_function, table_from_import, table_after, one_table}
use Rattle.smith_types.specs.Syntax.value_type.AbstractHeapType.TheVariants as heap
use Rattle.smith_module_rules_examples.proofs.PartExamples.{alone, pushed_alone, no_function_given}
use Rattle.smith_module_rules_examples.proofs.RefusedExamples.{null_refused}
use Rattle.smith_module_rules_examples.proofs.refused_modules.tables.Goals as goal

number_is_no_reference : IsConstExpr (table_context one_table) (Ref funcref) (I32Const (pos 0) ∷ []) → ⊥
number_is_no_reference = grind (arith, common_steps)

pub returns : goal.returns
returns c = record {
  from_an_import =
      let read = alone (table_context table_from_import) (GlobalGet 0) (Ref funcref) (Ref funcref)
      (refl, (global (Ref funcref) false, refl, omega arith, refl, refl)) (IsRefBelow-refl [] funcref) (λ never. refl) in
      record {
        tables = each_place (IsTableDefined table_from_import) table_from_import.defined_tables
            ((table funcref 1 None, refl, (refl, read)), tt);
        globals = search rules;
      };
  from_a_definition = λ valid.
      let (table, at, started) = valid.tables 0 (Some (GlobalGet 0 ∷ [])) refl in
      let (gc, expression) = started in
      let (between, step, end) = expression.steps in
      let (operands, visible) = step.typed in
      let (read, stands, before, constant, ty) = visible in
      omega (arith, before);
  with_an_initialiser_without_gc = λ valid.
      let (table, at, started) = valid.tables 0 (Some no_function) refl in
      let (never, expression) = started in
      cc never;
  from_a_number = λ valid.
      let (stands, at, started) = valid.tables 0 (Some (I32Const (pos 0) ∷ [])) refl in
      let (gc, expression) = started in
      number_is_no_reference
      (subst (λ (one : TableType). IsConstExpr (table_context one_table) (Ref one.element_type) (I32Const (pos 0) ∷ []))
      (sym (same_Some (table funcref 1 None) stands at)) expression);
  after_an_imported_one = record {
    tables = each_place (IsTableDefined (table_after no_function)) (Some no_function ∷ [])
        ((table funcref 1 None, refl, (refl, no_function_given (table_context (table_after no_function)) refl)), tt);
    globals =
        search rules;
  };
  by_the_references_of_an_imported_one = λ valid.
      let extern = plain heap.Extern in
      let context = table_context (table_after (RefNull extern ∷ [])) in
      let (stands, at, started) = valid.tables 0 (Some (RefNull extern ∷ [])) refl in
      let (gc, expression) = started in
      let known : IsConstExpr context (Ref funcref) (RefNull extern ∷ []) =
      subst (λ (one : TableType). IsConstExpr context (Ref one.element_type) (RefNull extern ∷ []))
      (sym (same_Some (table funcref 1 None) stands at)) expression in
      let below = pushed_alone context (RefNull extern) (Ref (nullable extern)) (Ref funcref) (λ operands pushed typed. typed.2) known in
      let (shares, never) = by_cases_from_below [] (search rules) extern (plain heap.Func) below.heap in
      cc never;
  of_no_null_without_an_initialiser = null_refused;
  that_is_not_there = λ valid. let (table, at, started) = valid.tables 0 (Some no_function) refl in cc at;
}
