use Rattle.smith_decode.proofs.Common.{content_at, each_at, expr_at, instr_at, is_over, list_at, nested_at, nested_instr_at, refl, sized_at}
use Rattle.smith_decode.proofs.Common.{unsigned_at}
use Rattle.smith_binary_read_instr.specs.ControlReadings.{block_type_at, block_at}
use Rattle.smith_binary_read_instr.specs.InstrReadings.{low_instr_at}
use Rattle.smith_decode.specs.BodyReadings.{body_whole, body_at}
use Rattle.smith_decode.proofs.examples.bodies.Goals as goal

pub returns-clause-one_instruction : goal.returns-clause-one_instruction
unfolding body_at body_whole sized_at content_at unsigned_at list_at each_at expr_at nested_at nested_instr_at is_over instr_at
    low_instr_at block_at block_type_at
returns-clause-one_instruction c = refl

pub returns-clause-open_block : goal.returns-clause-open_block
unfolding body_at body_whole sized_at content_at unsigned_at list_at each_at expr_at nested_at nested_instr_at is_over instr_at
    low_instr_at block_at block_type_at
returns-clause-open_block c = refl

pub returns-clause-after_the_end : goal.returns-clause-after_the_end
unfolding body_at body_whole sized_at content_at unsigned_at list_at each_at expr_at nested_at nested_instr_at is_over instr_at
    low_instr_at block_at block_type_at
returns-clause-after_the_end c = refl
