use Rattle.wasm_smith_examples.proofs.Common.{refl, encode, digits, is_utf8, chars, utf8_valid_len, bool_at, range_at, digit_count, len_at}
use Rattle.wasm_smith_examples.proofs.Common.{text_at, new_name, chosen_at, export_name_at, export_at, exports_from, free_exports_at}
use Rattle.wasm_smith_examples.proofs.exports.ends.Goals as goal

pub returns : goal.returns
unfolding free_exports_at exports_from export_at chosen_at bool_at export_name_at new_name text_at len_at range_at digit_count
    utf8_valid_len is_utf8 chars encode digits
returns c = record {
  without_items = refl;
  too_large = refl;
  just_small_enough = refl;
  too_large_beside_imports = refl;
  too_large_together = refl;
}
