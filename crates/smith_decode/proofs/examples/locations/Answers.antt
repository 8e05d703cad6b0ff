use Rattle.smith_decode.proofs.Common.{bulk_at, bytes_instr_at, content_at, each_at, expr_at, instr_at, is_over, list_at, nested_at}
use Rattle.smith_decode.proofs.Common.{nested_instr_at, prefixed_at, refl, saturating_of, sized_at, unsigned_at}
use Rattle.smith_decode.specs.BodyReadings.{body_whole, body_at, run_at}
use Rattle.smith_decode.specs.Locations.{after_each_at, begins_in, found_section_at, from_item_at, instruction_begins, item_begins}
use Rattle.smith_decode.specs.Locations.{section_content_at}
use Rattle.smith_decode.specs.ModuleReadings.{preamble_at}
use Rattle.smith_decode.proofs.examples.locations.Goals as goal

pub returns-clause-function : goal.returns-clause-function
unfolding found_section_at begins_in section_content_at preamble_at unsigned_at content_at item_begins from_item_at after_each_at
returns-clause-function c = refl

pub returns-clause-data_count : goal.returns-clause-data_count
unfolding found_section_at begins_in section_content_at preamble_at unsigned_at content_at
returns-clause-data_count c = refl

pub returns-clause-body : goal.returns-clause-body
unfolding found_section_at begins_in section_content_at preamble_at unsigned_at content_at item_begins from_item_at after_each_at body_at
    body_whole sized_at list_at each_at expr_at nested_at nested_instr_at is_over instr_at prefixed_at bulk_at bytes_instr_at
    saturating_of
returns-clause-body c = refl

pub returns-clause-instruction : goal.returns-clause-instruction
unfolding found_section_at begins_in section_content_at preamble_at unsigned_at content_at instruction_begins from_item_at after_each_at
    body_at body_whole sized_at list_at each_at expr_at nested_at nested_instr_at is_over instr_at prefixed_at bulk_at bytes_instr_at
    saturating_of run_at
returns-clause-instruction c = refl

pub returns-clause-last_end : goal.returns-clause-last_end
unfolding found_section_at begins_in section_content_at preamble_at unsigned_at content_at instruction_begins from_item_at after_each_at
    body_at body_whole sized_at list_at each_at expr_at nested_at nested_instr_at is_over instr_at prefixed_at bulk_at bytes_instr_at
    saturating_of run_at
returns-clause-last_end c = refl

pub returns-clause-no_second_body : goal.returns-clause-no_second_body
unfolding found_section_at begins_in section_content_at preamble_at unsigned_at content_at item_begins from_item_at after_each_at body_at
    body_whole sized_at list_at each_at expr_at nested_at nested_instr_at is_over instr_at prefixed_at bulk_at bytes_instr_at
    saturating_of
returns-clause-no_second_body c = refl

pub returns-clause-no_start : goal.returns-clause-no_start
unfolding found_section_at begins_in section_content_at preamble_at unsigned_at content_at
returns-clause-no_start c = refl
