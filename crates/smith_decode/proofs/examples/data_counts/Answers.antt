use Rattle.smith_decode.proofs.Common.{bulk_at, bytes_instr_at, content_at, each_at, expr_at, instr_at, is_over, list_at, name_at}
use Rattle.smith_decode.proofs.Common.{nested_at, nested_instr_at, prefixed_at, refl, saturating_of, sized_at, unsigned_at}
use Rattle.smith_decode.specs.BodyReadings.{body_whole, body_at}
use Rattle.smith_decode.specs.CustomReadings.{custom_whole, skip_customs, customs_at, section_at, end_at}
use Rattle.smith_decode.specs.CustomReadings.{custom_at, next_section_at, gathered_at, kept_at}
use Rattle.smith_decode.specs.ModuleReadings.{preamble_at, index_whole, bodies_at, counts_at, starts_at, globals_at, memories_at}
use Rattle.smith_decode.specs.ModuleReadings.{functions_at, parts_at, sections_at, checked_at, module_at}
use Rattle.smith_decode.proofs.examples.data_counts.Goals as goal

pub returns-clause-stated : goal.returns-clause-stated
unfolding kept_at gathered_at next_section_at custom_at checked_at module_at preamble_at customs_at skip_customs custom_whole section_at
    end_at sections_at parts_at functions_at memories_at globals_at starts_at counts_at bodies_at index_whole each_at unsigned_at
    content_at name_at list_at sized_at body_at body_whole expr_at nested_at nested_instr_at is_over instr_at prefixed_at bulk_at
    bytes_instr_at saturating_of
returns-clause-stated c = refl

pub returns-clause-missing : goal.returns-clause-missing
unfolding kept_at gathered_at next_section_at custom_at checked_at module_at preamble_at customs_at skip_customs custom_whole section_at
    end_at sections_at parts_at functions_at memories_at globals_at starts_at counts_at bodies_at index_whole each_at unsigned_at
    content_at name_at list_at sized_at body_at body_whole expr_at nested_at nested_instr_at is_over instr_at prefixed_at bulk_at
    bytes_instr_at saturating_of
returns-clause-missing c = refl

pub returns-clause-other_count : goal.returns-clause-other_count
unfolding kept_at gathered_at next_section_at custom_at checked_at module_at preamble_at customs_at skip_customs custom_whole section_at
    end_at sections_at parts_at functions_at memories_at globals_at starts_at counts_at bodies_at index_whole each_at unsigned_at
    content_at name_at list_at sized_at
returns-clause-other_count c = refl
