use Rattle.wasm_smith_examples.proofs.Common.{refl, encode, digits, is_utf8, chars, utf8_valid_len, bool_at, range_at, digit_count, len_at}
use Rattle.wasm_smith_examples.proofs.Common.{text_at, new_name, export_name_at, exports_from, free_exports_at, exports_of_items}
use Rattle.wasm_smith_examples.proofs.Common.{everything_at, exports_at}
use Rattle.wasm_smith_examples.proofs.exports.every_export.Goals as goal

pub returns : goal.returns
unfolding exports_at everything_at exports_of_items export_name_at new_name text_at len_at range_at digit_count utf8_valid_len is_utf8 chars
    encode digits free_exports_at exports_from bool_at
returns c = record {
  by_kind_and_index = refl;
  tags_last = refl;
  more_than_may_be = refl;
  of_no_item = refl;
  just_small_enough = refl;
  too_large = refl;
  freely_where_that_is_off = refl;
}
