use Rattle.smith_instr_examples.proofs.SubsumptionExamples as example
use Rattle.smith_instr_examples.proofs.subsumption.operands.Goals as goal

pub returns : goal.returns
returns c = record {
  function_where_any_may_be_null = example.tested;
  function_into_a_table = example.written;
  wide_number_where_a_narrow_one_is_taken = example.too_wide;
  null_where_none_is_taken = example.null_set;
  any_reference_where_a_struct_is_taken = example.any_read;
}
