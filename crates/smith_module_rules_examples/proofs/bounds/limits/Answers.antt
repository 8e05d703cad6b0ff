use Rattle.smith_module_rules_examples.proofs.Common.{rules, arith, common_steps, [], ◌∷◌, None, Some, true, Contains, All-head, funcref}
use Rattle.smith_module_rules_examples.proofs.Common.{MemoryType, TableType, Config, default_config, IsTableWithin, IsMemoryWithin, memory}
use Rattle.smith_module_rules_examples.proofs.Common.{shared_memory, table, for_module, for_exports, empty_shape, exporting, ◌⊎◌}
use Rattle.smith_module_rules_examples.proofs.bounds.limits.Goals as goal

-- the bounds of a memory and of a table without shapes
abbrev IsMemoryKept : Config → MemoryType → Type 0
IsMemoryKept config one = Contains [] one ⊎ IsMemoryWithin config one

abbrev IsTableKept : Config → TableType → Type 0
IsTableKept config one = Contains [] one ⊎ IsTableWithin config one

too_large : IsMemoryKept (record default_config { max_memory32_bytes = 65535 }) (memory 1 None) → ⊥
too_large = search arith

not_forced : IsMemoryKept (record default_config { max_memory32_bytes = 0 }) (shared_memory 1) → ⊥
not_forced = search arith

memory_without_maximum : IsMemoryKept (record default_config { max_memories = 2; memory_max_size_required = true }) (memory 1 None) → ⊥
memory_without_maximum = search arith

-- no byte is allowed; of the shapes, that for exports is not used
abbrev no_bytes : Config
no_bytes = for_module empty_shape (for_exports exporting (record default_config { max_memory32_bytes = 0 }))

no_page : IsMemoryKept no_bytes (memory 1 (Some 10)) → ⊥
no_page = search arith

table_too_large : IsTableKept (record default_config { max_table_elements = 6788 }) (table funcref 6789 None) → ⊥
table_too_large = search arith

element_not_forced : IsTableKept (record default_config { max_table_elements = 0 }) (table funcref 1 None) → ⊥
element_not_forced = search arith

table_without_maximum : IsTableKept (record default_config { table_max_size_required = true }) (table funcref 1 None) → ⊥
table_without_maximum = search arith

pub returns : goal.returns
returns c = record {
  a_memory_too_large = λ bounds. too_large (All-head (IsMemoryKept (record default_config { max_memory32_bytes = 65535 })) (memory 1 None)
      [] bounds.memories);
  a_memory_of_a_shape = first_of (search rules, grind (arith, common_steps));
  a_forced_page = first_of (search rules, grind (arith, common_steps));
  a_page_that_is_not_forced = λ bounds. not_forced (All-head (IsMemoryKept (record default_config { max_memory32_bytes = 0 }))
      (shared_memory 1) [] bounds.memories);
  a_memory_without_its_maximum =
      λ bounds. memory_without_maximum
      (All-head (IsMemoryKept (record default_config { max_memories = 2; memory_max_size_required = true })) (memory 1 None)
      (memory 1 None ∷ []) bounds.memories);
  many_references = first_of (search rules, grind (arith, common_steps));
  a_table_too_large = λ bounds. table_too_large (All-head (IsTableKept (record default_config { max_table_elements = 6788 }))
      (table funcref 6789 None) [] bounds.tables);
  a_memory_of_a_shape_beside_a_module = λ bounds. no_page (All-head (IsMemoryKept no_bytes) (memory 1 (Some 10)) [] bounds.memories);
  a_table_of_a_shape = first_of (search rules, grind (arith, common_steps));
  a_forced_element = first_of (search rules, grind (arith, common_steps));
  an_element_that_is_not_forced = λ bounds. element_not_forced (All-head (IsTableKept (record default_config { max_table_elements = 0 }))
      (table funcref 1 None) [] bounds.tables);
  a_table_without_its_maximum =
      λ bounds. table_without_maximum (All-head (IsTableKept (record default_config { table_max_size_required = true }))
      (table funcref 1 None) [] bounds.tables);
}
