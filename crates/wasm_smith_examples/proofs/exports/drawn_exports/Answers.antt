use Rattle.wasm_smith_examples.proofs.Common.{refl, encode, digits, is_utf8, chars, utf8_valid_len, bool_at, range_at, digit_count, len_at}
use Rattle.wasm_smith_examples.proofs.Common.{text_at, new_name, chosen_at, export_name_at, export_at, exports_from, free_exports_at}
use Rattle.wasm_smith_examples.proofs.exports.drawn_exports.Goals as goal

pub returns : goal.returns
unfolding free_exports_at exports_from export_at chosen_at bool_at export_name_at new_name text_at len_at range_at digit_count
    utf8_valid_len is_utf8 chars encode digits
returns c = record {
  by_kind_and_index = refl;
  of_a_text = refl;
  not_asked_for = refl;
  none_wanted = refl;
  none_allowed = refl;
  asked_before_there_is_none = refl;
}
