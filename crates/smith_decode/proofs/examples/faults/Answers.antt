use Rattle.smith_decode.proofs.Common.{content_at, each_at, list_at, name_at, refl, sized_at, unsigned_at}
use Rattle.smith_decode.specs.CustomReadings.{custom_whole, skip_customs, customs_at, section_at, end_at}
use Rattle.smith_decode.specs.CustomReadings.{custom_at, next_section_at, gathered_at, kept_at}
use Rattle.smith_decode.specs.ModuleReadings.{preamble_at, index_whole, bodies_at, counts_at, starts_at, globals_at, memories_at}
use Rattle.smith_decode.specs.ModuleReadings.{functions_at, parts_at, sections_at, checked_at, module_at}
use Rattle.smith_decode.proofs.examples.faults.Goals as goal

pub returns-clause-other_version : goal.returns-clause-other_version
unfolding kept_at gathered_at next_section_at custom_at checked_at module_at preamble_at customs_at skip_customs custom_whole section_at
    end_at sections_at parts_at functions_at memories_at globals_at starts_at counts_at bodies_at index_whole each_at unsigned_at
    content_at name_at list_at sized_at
returns-clause-other_version c = refl

pub returns-clause-out_of_order : goal.returns-clause-out_of_order
unfolding kept_at gathered_at next_section_at custom_at checked_at module_at preamble_at customs_at skip_customs custom_whole section_at
    end_at sections_at parts_at functions_at memories_at globals_at starts_at counts_at bodies_at index_whole each_at unsigned_at
    content_at name_at list_at sized_at
returns-clause-out_of_order c = refl

pub returns-clause-trailing_byte : goal.returns-clause-trailing_byte
unfolding kept_at gathered_at next_section_at custom_at checked_at module_at preamble_at customs_at skip_customs custom_whole section_at
    end_at sections_at parts_at functions_at memories_at globals_at starts_at counts_at bodies_at index_whole each_at unsigned_at
    content_at name_at list_at sized_at
returns-clause-trailing_byte c = refl

pub returns-clause-without_a_body : goal.returns-clause-without_a_body
unfolding kept_at gathered_at next_section_at custom_at checked_at module_at preamble_at customs_at skip_customs custom_whole section_at
    end_at sections_at parts_at functions_at memories_at globals_at starts_at counts_at bodies_at index_whole each_at unsigned_at
    content_at name_at list_at sized_at
returns-clause-without_a_body c = refl
