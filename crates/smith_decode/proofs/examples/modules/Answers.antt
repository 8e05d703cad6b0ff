use Rattle.smith_decode.proofs.Common.{[], content_at, each_at, list_at, name_at, refl, sized_at, true, unsigned_at, ◌≡◌}
use Rattle.std.specs.Str.{is_utf8}
use Rattle.std.proofs.lemmas.Str.{IsUtf8-from_ascii, is_utf8-from_IsUtf8}
use Rattle.std.proofs.lemmas.Str.Ascii.{IsAscii-nil}
use Rattle.smith_binary_read.specs.TypeReadings.{composite_type_at, declared_group_at, declared_type_at, inner_type_at, supertypes_at}
use Rattle.smith_decode.specs.CustomReadings.{custom_whole, skip_customs, customs_at, section_at, end_at}
use Rattle.smith_decode.specs.CustomReadings.{custom_at, next_section_at, gathered_at, kept_at}
use Rattle.smith_decode.specs.ModuleReadings.{preamble_at, index_whole, bodies_at, counts_at, starts_at, globals_at, memories_at}
use Rattle.smith_decode.specs.ModuleReadings.{functions_at, parts_at, sections_at, checked_at, module_at}
use Rattle.smith_decode.proofs.examples.modules.Goals as goal

pub returns-clause-preamble : goal.returns-clause-preamble
unfolding kept_at gathered_at next_section_at custom_at checked_at module_at preamble_at customs_at skip_customs custom_whole section_at
    end_at sections_at parts_at functions_at memories_at globals_at starts_at counts_at bodies_at index_whole each_at unsigned_at
    content_at name_at list_at sized_at
returns-clause-preamble c = refl

pub returns-clause-custom_section : goal.returns-clause-custom_section
unfolding kept_at gathered_at next_section_at custom_at checked_at module_at preamble_at customs_at skip_customs custom_whole section_at
    end_at sections_at parts_at functions_at memories_at globals_at starts_at counts_at bodies_at index_whole each_at unsigned_at
    content_at name_at list_at sized_at
returns-clause-custom_section c =
    let text : is_utf8 [] ≡ true = is_utf8-from_IsUtf8 [] (IsUtf8-from_ascii [] IsAscii-nil) in
    rw text refl

pub returns-clause-customs_around : goal.returns-clause-customs_around
unfolding kept_at gathered_at next_section_at custom_at checked_at module_at preamble_at customs_at skip_customs custom_whole section_at
    end_at sections_at parts_at functions_at memories_at globals_at starts_at counts_at bodies_at index_whole each_at unsigned_at
    content_at name_at list_at sized_at
returns-clause-customs_around c =
    let text : is_utf8 [] ≡ true = is_utf8-from_IsUtf8 [] (IsUtf8-from_ascii [] IsAscii-nil) in
    rw (text, text) refl

pub returns-clause-empty_sections : goal.returns-clause-empty_sections
unfolding kept_at gathered_at next_section_at custom_at checked_at module_at preamble_at customs_at skip_customs custom_whole section_at
    end_at sections_at parts_at functions_at memories_at globals_at starts_at counts_at bodies_at index_whole each_at unsigned_at
    content_at name_at list_at sized_at
returns-clause-empty_sections c = refl

pub returns-clause-long_size : goal.returns-clause-long_size
unfolding kept_at gathered_at next_section_at custom_at checked_at module_at preamble_at customs_at skip_customs custom_whole section_at
    end_at sections_at parts_at functions_at memories_at globals_at starts_at counts_at bodies_at index_whole each_at unsigned_at
    content_at name_at list_at sized_at
returns-clause-long_size c = refl

pub returns-clause-two_supertypes : goal.returns-clause-two_supertypes
unfolding kept_at gathered_at next_section_at custom_at checked_at module_at preamble_at customs_at skip_customs custom_whole section_at
    end_at sections_at parts_at functions_at memories_at globals_at starts_at counts_at bodies_at index_whole each_at unsigned_at
    content_at name_at list_at sized_at declared_group_at declared_type_at supertypes_at composite_type_at inner_type_at
returns-clause-two_supertypes c = refl
