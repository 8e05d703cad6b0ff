use Rattle.smith_module_rules_examples.proofs.Common.{arith, [], ◌∷◌, pos, negsuc, false, All-head, IsElementSegmentValid, IsDataValid}
use Rattle.smith_module_rules_examples.proofs.Common.{Const32, Global, segment_context, into_a_table, active_data, one_function}
use Rattle.smith_module_rules_examples.proofs.Common.{table_from_a_number, last_byte}
use Rattle.smith_module_rules_examples.proofs.RefusedExamples.{elements_refused, bytes_refused}
use Rattle.smith_module_rules_examples.proofs.refused_modules.segments.Goals as goal

pub returns : goal.returns
returns c = record {
  elements_without_bulk_memory = elements_refused;
  elements_in_no_table = λ valid.
      let segment = All-head (IsElementSegmentValid (segment_context one_function) []) (into_a_table (Const32 (pos 0))) [] valid in
      cc segment.kind.stands;
  from_where_a_defined_number_says_without_gc = λ valid.
      let m = table_from_a_number false in
      let segment = All-head (IsElementSegmentValid (segment_context m) m.tables) (into_a_table (Global 0)) [] valid in
      let (read, stands, before, constant, ty) = segment.kind.offset_valid in
      omega (arith, before);
  bytes_in_no_memory = λ valid.
      let (memory, stands, offset) = All-head (IsDataValid (segment_context last_byte) []) (active_data (negsuc 0) (42 ∷ [])) [] valid in
      cc stands;
  bytes_without_bulk_memory = bytes_refused;
}
