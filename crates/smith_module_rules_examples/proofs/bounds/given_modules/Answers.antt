use Rattle.smith_module_rules_examples.proofs.Common.{rules, arith, common_steps, ◌≤◌}
use Rattle.smith_bytes.specs.declared.error.Count.TheVariants as counts
use Rattle.smith_module_rules_examples.proofs.ShapeExamples.{no_imports_fixed}
use Rattle.smith_module_rules_examples.proofs.bounds.given_modules.Goals as goal

pub returns : goal.returns
returns c = record {
  three_types = first_of (search rules, grind (arith, common_steps));
  a_type_is_missing = λ minimums. let never : 3 ≤ 2 = minimums.least counts.Types tt in omega (arith, never);
  two_imports = first_of (search rules, grind (arith, common_steps));
  an_import_is_missing = λ minimums. let never : 2 ≤ 1 = minimums.least counts.Imports no_imports_fixed in omega (arith, never);
  a_table = first_of (search rules, grind (arith, common_steps));
  a_table_is_missing = λ minimums. let never : 1 ≤ 0 = minimums.least counts.Tables tt in omega (arith, never);
  a_memory = first_of (search rules, grind (arith, common_steps));
  a_memory_is_missing = λ minimums. let never : 1 ≤ 0 = minimums.least counts.Memories tt in omega (arith, never);
  three_globals = first_of (search rules, grind (arith, common_steps));
  a_byte = first_of (search rules, grind (arith, common_steps));
  data_is_missing = λ minimums. let never : 1 ≤ 0 = minimums.least counts.DataSegments tt in omega (arith, never);
  sixty_elements = first_of (search rules, grind (arith, common_steps));
  a_segment_is_missing = λ minimums. let never : 1 ≤ 0 = minimums.least counts.ElementSegments tt in omega (arith, never);
  a_tag_is_missing = λ minimums. let never : 1 ≤ 0 = minimums.least counts.Tags tt in omega (arith, never);
}
