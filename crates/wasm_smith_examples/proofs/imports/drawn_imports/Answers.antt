use Rattle.wasm_smith_examples.proofs.Common.{refl, encode, digits, is_utf8, chars, utf8_valid_len, whole_at, bool_at, range_at}
use Rattle.wasm_smith_examples.proofs.Common.{digit_count, len_at, text_at, new_name, chosen_at, global_type_at, sharedness_at, val_type_at}
use Rattle.wasm_smith_examples.proofs.Common.{group_kind_at, import_name_at, kind_at, entity_of_kind_at, entity_at, fill_at, filled_at}
use Rattle.wasm_smith_examples.proofs.Common.{group_of_kind_at, group_at, groups_at, imports_at}
use Rattle.wasm_smith_examples.proofs.imports.drawn_imports.Goals as goal

pub returns : goal.returns
unfolding imports_at groups_at group_at group_of_kind_at filled_at fill_at import_name_at new_name kind_at entity_at entity_of_kind_at
    group_kind_at whole_at bool_at range_at digit_count len_at text_at chosen_at global_type_at val_type_at sharedness_at utf8_valid_len
    is_utf8 chars encode digits
returns c = record {
  of_one_type = refl;
  names_twice = refl;
  names_once = refl;
  empty_group = refl;
  of_one_module = refl;
  by_itself = refl;
  none_asked_for = refl;
  none_allowed = refl;
  too_large_together = refl;
  just_small_enough = refl;
}
