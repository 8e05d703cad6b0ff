use Rattle.std.proofs.Common.{refl}
use lib.Utf8.{encode}
use Rattle.std.specs.Str.{is_utf8, chars}
use Rattle.std.specs.Str.Lossy.{utf8_valid_len}
use Rattle.smith_bytes.specs.Draws.{digit_count, range_at, len_at}
use Rattle.smith_bytes.specs.Names.{text_at}
use Rattle.smith_bytes_examples.proofs.names.texts.Goals as goal

pub returns-clause-longest_front : goal.returns-clause-longest_front
unfolding text_at len_at range_at digit_count utf8_valid_len is_utf8 chars encode
returns-clause-longest_front c = refl

pub returns-clause-cut : goal.returns-clause-cut
unfolding text_at len_at range_at digit_count utf8_valid_len is_utf8 chars encode
returns-clause-cut c = refl

pub returns-clause-character_of_two_bytes : goal.returns-clause-character_of_two_bytes
unfolding text_at len_at range_at digit_count utf8_valid_len is_utf8 chars encode
returns-clause-character_of_two_bytes c = refl

pub returns-clause-length_ends_in_a_character : goal.returns-clause-length_ends_in_a_character
unfolding text_at len_at range_at digit_count utf8_valid_len is_utf8 chars encode
returns-clause-length_ends_in_a_character c = refl

pub returns-clause-cut_in_a_character : goal.returns-clause-cut_in_a_character
unfolding text_at len_at range_at digit_count utf8_valid_len is_utf8 chars encode
returns-clause-cut_in_a_character c = refl

pub returns-clause-no_front : goal.returns-clause-no_front
unfolding text_at len_at range_at digit_count utf8_valid_len is_utf8 chars encode
returns-clause-no_front c = refl

pub returns-clause-half_of_a_pair : goal.returns-clause-half_of_a_pair
unfolding text_at len_at range_at digit_count utf8_valid_len is_utf8 chars encode
returns-clause-half_of_a_pair c = refl

pub returns-clause-of_nothing : goal.returns-clause-of_nothing
unfolding text_at len_at range_at digit_count utf8_valid_len is_utf8 chars encode
returns-clause-of_nothing c = refl

pub returns-clause-one_byte_is_dropped : goal.returns-clause-one_byte_is_dropped
unfolding text_at len_at range_at digit_count utf8_valid_len is_utf8 chars encode
returns-clause-one_byte_is_dropped c = refl
