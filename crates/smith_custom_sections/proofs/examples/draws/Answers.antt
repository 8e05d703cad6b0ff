use Rattle.std.proofs.Common.{refl}
use lib.Utf8.{encode}
use Rattle.std.specs.Str.{is_utf8, chars}
use Rattle.std.specs.Str.Lossy.{utf8_valid_len}
use Rattle.smith_bytes.specs.Draws.{bool_at, whole_at, digit_count, range_at, len_at}
use Rattle.smith_bytes.specs.Growth.{grow_at}
use Rattle.smith_bytes.specs.Names.{text_at}
use Rattle.smith_custom_sections.specs.CustomDraws.{bytes_at, function_name_at, name_section_at, plain_section_at}
use Rattle.smith_custom_sections.specs.CustomDraws.{custom_section_at, custom_sections_at}
use Rattle.smith_custom_sections.proofs.examples.draws.Goals as goal

pub returns-clause-of_nothing : goal.returns-clause-of_nothing
unfolding custom_sections_at custom_section_at plain_section_at name_section_at function_name_at bytes_at grow_at bool_at whole_at text_at
    len_at range_at digit_count utf8_valid_len is_utf8 chars encode
returns-clause-of_nothing c = refl

pub returns-clause-none : goal.returns-clause-none
unfolding custom_sections_at custom_section_at plain_section_at name_section_at function_name_at bytes_at grow_at bool_at whole_at text_at
    len_at range_at digit_count utf8_valid_len is_utf8 chars encode
returns-clause-none c = refl

pub returns-clause-one_section : goal.returns-clause-one_section
unfolding custom_sections_at custom_section_at plain_section_at name_section_at function_name_at bytes_at grow_at bool_at whole_at text_at
    len_at range_at digit_count utf8_valid_len is_utf8 chars encode
returns-clause-one_section c = refl

pub returns-clause-function_name : goal.returns-clause-function_name
unfolding custom_sections_at custom_section_at plain_section_at name_section_at function_name_at bytes_at grow_at bool_at whole_at text_at
    len_at range_at digit_count utf8_valid_len is_utf8 chars encode
returns-clause-function_name c = refl

pub returns-clause-other_name_section : goal.returns-clause-other_name_section
unfolding custom_sections_at custom_section_at plain_section_at name_section_at function_name_at bytes_at grow_at bool_at whole_at text_at
    len_at range_at digit_count utf8_valid_len is_utf8 chars encode
returns-clause-other_name_section c = refl
