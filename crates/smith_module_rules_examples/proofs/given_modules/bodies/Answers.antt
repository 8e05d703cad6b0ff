use Rattle.smith_module_rules_examples.proofs.Common.{rules, pos, negsuc, true, refl, I32, global_context, number_given, global}
use Rattle.smith_module_rules_examples.proofs.Common.{counting_once, counting_fuel, counting_after}
use Rattle.smith_module_rules_examples.proofs.PartExamples.{taking_types, taking_functions, globals_defined}
use Rattle.smith_module_rules_examples.proofs.given_modules.bodies.Goals as goal

pub returns : goal.returns
returns c = record {
  a_function_without_gc = search (rules, taking_types, taking_functions);
  raw_bytes = search (rules, taking_types, taking_functions);
  a_counter_of_fuel = search (
    rules,
    taking_types,
    taking_functions,
    globals_defined counting_once (
      record {
        in_order = refl;
        global = global I32 true;
        stands = refl;
        initialised = number_given (global_context counting_once 0)
            (negsuc 0);
      },
      tt,
    ),
  );
  counters_of_fuel = search (
    rules,
    taking_types,
    taking_functions,
    globals_defined counting_fuel (
      record {
        in_order = refl;
        global = global I32 true;
        stands = refl;
        initialised = number_given (global_context counting_fuel 0)
            (negsuc 0);
      },
      (
        record {
          in_order = refl;
          global = global I32 true;
          stands = refl;
          initialised = number_given
              (global_context counting_fuel 1) (pos 5);
        },
        tt,
      ),
    ),
  );
  a_counter_after_imported_numbers =
      search (
        rules,
        globals_defined counting_after (
          record {
            in_order = refl;
            global = global I32 true;
            stands = refl;
            initialised = number_given (global_context counting_after 2)
                (pos 5);
          },
          tt,
        ),
      );
}
