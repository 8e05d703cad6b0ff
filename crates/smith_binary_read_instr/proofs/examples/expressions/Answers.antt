use Rattle.smith_binary_read_instr.proofs.Common.{refl}
use Rattle.smith_binary_read_instr.specs.ControlReadings.{block_at, block_type_at}
use Rattle.smith_binary_read_instr.specs.InstrReadings.{instr_at, low_instr_at}
use Rattle.smith_binary_read_instr.specs.ExpressionReadings.{expr_at, nested_at, nested_instr_at, is_over}
use Rattle.smith_binary_read_instr.proofs.examples.expressions.Goals as goal

pub returns-clause-empty_block : goal.returns-clause-empty_block
unfolding block_at block_type_at instr_at low_instr_at expr_at nested_at nested_instr_at is_over
returns-clause-empty_block c = refl

pub returns-clause-open_block : goal.returns-clause-open_block
unfolding block_at block_type_at instr_at low_instr_at expr_at nested_at nested_instr_at is_over
returns-clause-open_block c = refl

pub returns-clause-else_in_no_if : goal.returns-clause-else_in_no_if
unfolding block_at block_type_at instr_at low_instr_at expr_at nested_at nested_instr_at is_over
returns-clause-else_in_no_if c = refl

pub returns-clause-first_end : goal.returns-clause-first_end
unfolding block_at block_type_at instr_at low_instr_at expr_at nested_at nested_instr_at is_over
returns-clause-first_end c = refl
