use Rattle.smith_module_rules_examples.proofs.Common.{rules, arith, ℕ, ◌<◌, List, pos, true, false, refl, All-from_recursion, IsEntityAt}
use Rattle.smith_module_rules_examples.proofs.Common.{I32, EntityType, ExportKind, I32Const, GlobalGet, distinct_alone, module_spaces}
use Rattle.smith_module_rules_examples.proofs.Common.{global_context, number_given, global, number, exported_number, three_numbers}
use Rattle.smith_types.specs.Syntax.entity_type.EntityType.TheVariants as entity
use Rattle.smith_module_rules_examples.proofs.PartExamples.{first_read, globals_defined}
use Rattle.smith_module_rules_examples.proofs.given_modules.globals.Goals as goal

pub returns : goal.returns
returns c = record {
  an_exported_number =
      let defined = globals_defined exported_number (
        record {
          in_order = refl;
          global = global I32 false;
          stands = refl;
          initialised = number_given (global_context exported_number 0)
              (pos 0);
        },
        tt,
      ) in
      let stand = All-from_recursion (λ (one : List ℕ × ExportKind × ℕ). (ty : EntityType) × IsEntityAt (module_spaces exported_number)
      one.1 one.2 ty) exported_number.exports ((entity.Global number, (number, refl, refl)), tt) in
      search (rules, defined, stand, distinct_alone);
  numbers_from_the_first =
      let m = three_numbers true (GlobalGet 0) in
      let read = λ (index : ℕ) (below : 0 < index). first_read (global_context m index) (number, refl, below, refl, refl) (λ _. refl) in
      search (
        rules,
        globals_defined m (
          record { in_order = refl; global = number; stands = refl; initialised = number_given (global_context m 0) (pos 0) },
          (
            record { in_order = refl; global = number; stands = refl; initialised = read 1 (omega arith) },
            (record { in_order = refl; global = number; stands = refl; initialised = read 2 (omega arith) }, tt),
          ),
        ),
      );
  numbers_without_gc =
      let m = three_numbers false (I32Const (pos 0)) in
      search (
        rules,
        globals_defined m (
          record { in_order = refl; global = number; stands = refl; initialised = number_given (global_context m 0) (pos 0) },
          (
            record { in_order = refl; global = number; stands = refl; initialised = number_given (global_context m 1) (pos 0) },
            (record { in_order = refl; global = number; stands = refl; initialised = number_given (global_context m 2) (pos 0) }, tt),
          ),
        ),
      );
}
