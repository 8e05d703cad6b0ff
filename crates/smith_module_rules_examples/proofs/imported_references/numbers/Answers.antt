use Rattle.smith_module_rules_examples.proofs.Common.{rules, arith, ◌≤◌, refl, global_context, number, imported_read}
use Rattle.smith_module_rules_examples.proofs.PartExamples.{first_read, globals_defined}
use Rattle.smith_module_rules_examples.proofs.imported_references.numbers.Goals as goal

pub returns : goal.returns
returns c =
    let read = first_read (global_context imported_read 1) (number, refl, omega arith, refl, refl)
    (λ (past : 1 ≤ 0). absurd (omega (arith, past))) in
    record {
      an_imported_one_without_gc =
          search (
            rules,
            globals_defined imported_read (
              record { in_order = refl; global = number; stands = refl; initialised = read },
              tt,
            ),
          );
    }
