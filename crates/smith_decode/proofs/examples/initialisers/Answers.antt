use Rattle.smith_decode.proofs.Common.{content_at, expr_at, instr_at, is_over, nested_at, nested_instr_at, refl, unsigned_at}
use Rattle.smith_binary_read.specs.Numbers.{signed_at}
use Rattle.smith_binary_read.specs.TypeReadings.{val_type_at}
use Rattle.smith_binary_read.specs.EntityReadings.{global_flags_at, global_type_at}
use Rattle.smith_binary_read_instr.specs.ControlReadings.{block_type_at, block_at}
use Rattle.smith_binary_read_instr.specs.InstrReadings.{high_instr_at, low_instr_at}
use Rattle.smith_binary_read_instr.specs.NumericReadings.{const_at, int_unary_of, int_operator_of, numeric_of, numeric_at}
use Rattle.smith_decode.specs.DataReadings.{segment_at}
use Rattle.smith_decode.specs.DefinitionReadings.{global_at}
use Rattle.smith_decode.proofs.examples.initialisers.Goals as goal

pub returns-clause-no_constant : goal.returns-clause-no_constant
unfolding global_at global_type_at global_flags_at val_type_at signed_at const_at int_unary_of int_operator_of numeric_of numeric_at
    expr_at nested_at nested_instr_at is_over instr_at high_instr_at
returns-clause-no_constant c = refl

pub returns-clause-open_block : goal.returns-clause-open_block
unfolding global_at global_type_at global_flags_at val_type_at block_type_at block_at expr_at nested_at nested_instr_at is_over instr_at
    low_instr_at
returns-clause-open_block c = refl

pub returns-clause-offset : goal.returns-clause-offset
unfolding segment_at content_at unsigned_at signed_at const_at int_unary_of int_operator_of numeric_of numeric_at expr_at nested_at
    nested_instr_at is_over instr_at high_instr_at
returns-clause-offset c = refl
