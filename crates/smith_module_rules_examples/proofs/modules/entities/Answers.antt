use Rattle.smith_module_rules_examples.proofs.Common.{rules, ℕ, List, None, pos, true, refl, funcref, I32, ConstInstr, I32Const, each_place}
use Rattle.smith_module_rules_examples.proofs.Common.{AreDefinitionsValid, IsTableDefined, IsGlobalDefined, table_context, global_context}
use Rattle.smith_module_rules_examples.proofs.Common.{table, global, one_table, one_number}
use Rattle.smith_module_rules_examples.proofs.PartExamples.{alone, no_function_given}
use Rattle.smith_module_rules_examples.proofs.modules.entities.Goals as goal

pub returns-clause-a_table : goal.returns-clause-a_table
returns-clause-a_table c =
    search (
      rules,
      each_place (IsTableDefined one_table) one_table.defined_tables
          ((table funcref 1 None, refl, (refl, no_function_given (table_context one_table) refl)), tt),
    )

numbers_defined : AreDefinitionsValid one_number
numbers_defined = record {
  tables = search rules;
  globals = λ place index initial at. each_place (λ place (one : ℕ × List ConstInstr). IsGlobalDefined one_number place one.0 one.1)
      one_number.defined_globals (
        record {
          in_order = refl;
          global = global I32 true;
          stands = refl;
          initialised = alone (global_context one_number 0)
              (I32Const (pos 7)) I32 I32 (refl, refl) tt tt;
        },
        tt,
      ) place (index, initial) at;
}

pub returns-clause-a_number : goal.returns-clause-a_number
returns-clause-a_number c = search (rules, numbers_defined)
