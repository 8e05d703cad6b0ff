use Rattle.smith_module_rules_examples.proofs.Common.{rules, None, refl, All-from_recursion, funcref, IsDataValid, each_place}
use Rattle.smith_module_rules_examples.proofs.Common.{IsTableDefined, segment_context, memory, table, null_table, last_byte}
use Rattle.smith_module_rules_examples.proofs.given_modules.tables_and_memories.Goals as goal

pub returns-clause-many_references : goal.returns-clause-many_references
returns-clause-many_references c = search (
  rules,
  each_place (IsTableDefined (null_table 6789)) (null_table 6789).defined_tables
      ((table funcref 6789 None, refl, refl), tt),
)

pub returns-clause-more_references : goal.returns-clause-more_references
returns-clause-more_references c = search (
  rules,
  each_place (IsTableDefined (null_table 996093)) (null_table 996093).defined_tables
      ((table funcref 996093 None, refl, refl), tt),
)

pub returns-clause-a_byte_at_the_last_address : goal.returns-clause-a_byte_at_the_last_address
returns-clause-a_byte_at_the_last_address c =
    search (
      rules,
      All-from_recursion (IsDataValid (segment_context last_byte) last_byte.memories) last_byte.datas
          ((memory 65536 None, refl, refl), tt),
    )
