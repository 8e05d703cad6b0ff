use Rattle.wasm_smith_examples.proofs.Common.{rules, arith, common_steps, refl, encode, digits, is_utf8, chars, utf8_valid_len, range_at}
use Rattle.wasm_smith_examples.proofs.Common.{digit_count, len_at, text_at, new_name, export_name_at}
use Rattle.wasm_smith_examples.proofs.exports.names.Goals as goal

pub returns : goal.returns
unfolding export_name_at new_name text_at len_at range_at digit_count utf8_valid_len is_utf8 chars encode digits
returns c = record {
  taken = first_of (search rules, grind (arith, common_steps));
  not_taken = first_of (search rules, grind (arith, common_steps));
  number_after = refl;
  number_twice = refl;
  new_as_it_is = refl;
}
