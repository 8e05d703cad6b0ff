use Rattle.wasm_smith_examples.proofs.Common.{refl, bool_at, range_at, digit_count, len_at, grow_at, text_at, chosen_at, composite_type_at}
use Rattle.wasm_smith_examples.proofs.Common.{func_type_at, val_types_at, types_at, least_types_at, more_types_at, rec_group_at}
use Rattle.wasm_smith_examples.proofs.Common.{new_group_at, types_until_at, sub_type_at, sub_type_of_at, root_type_at, supertypes}
use Rattle.wasm_smith_examples.proofs.Common.{is_tag_type, is_unshared_function, val_type_at, sharedness_at, is_utf8, chars, utf8_valid_len}
use Rattle.wasm_smith_examples.proofs.Common.{exports_at, first_parts_at, data_at, counting_at, data_segments_at, definitions_at}
use Rattle.wasm_smith_examples.proofs.Common.{items_defined_at, items_tried_at, try_grow_at, type_indices_at, tags_at, funcs_at, tables_at}
use Rattle.wasm_smith_examples.proofs.Common.{memories_at, globals_at, bodies_at, after_exports_at, all_segments_at}
use Rattle.wasm_smith_examples.proofs.Common.{all_element_segments_at, element_kinds_at, table_kinds_at, element_segments_at}
use Rattle.wasm_smith_examples.proofs.Common.{free_exports_at, exports_from, group_kind_at, import_name_at, kind_at, entity_of_kind_at}
use Rattle.wasm_smith_examples.proofs.Common.{entity_at, imports_at, groups_at, group_at, group_of_kind_at, start_at, start_wanted_at}
use Rattle.wasm_smith_examples.proofs.Common.{section_flag_at}
use Rattle.wasm_smith.specs.Build.{module_at, first_parts_typed_at, imported_at, defined_at as defined_after, exported_at}
use Rattle.wasm_smith_examples.proofs.definitions.an_imported_function.Goals as goal

pub returns : goal.returns
unfolding types_at least_types_at more_types_at rec_group_at new_group_at types_until_at imports_at groups_at group_at group_of_kind_at
    module_at first_parts_typed_at first_parts_at imported_at defined_after exported_at definitions_at section_flag_at after_exports_at
    all_segments_at exports_at free_exports_at exports_from start_at start_wanted_at all_element_segments_at element_kinds_at table_kinds_at
    element_segments_at data_at counting_at data_segments_at bodies_at items_defined_at items_tried_at try_grow_at type_indices_at tags_at
    funcs_at tables_at memories_at globals_at grow_at is_tag_type is_unshared_function val_type_at sharedness_at chosen_at bool_at range_at
    digit_count len_at sub_type_at sub_type_of_at root_type_at supertypes composite_type_at func_type_at val_types_at group_kind_at kind_at
    entity_of_kind_at entity_at import_name_at text_at utf8_valid_len is_utf8 chars
returns c = refl
