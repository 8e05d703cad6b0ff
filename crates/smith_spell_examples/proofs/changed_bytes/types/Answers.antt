use Rattle.smith_spell_examples.proofs.Common.{[], alone, default_config, digit_count, GroupedTypes, GroupsFit, is_tag_type}
use Rattle.smith_spell_examples.proofs.Common.{is_unshared_function, List, Listed, one_function_type, refl, rules, space_of, SpellsGroups}
use Rattle.smith_spell_examples.proofs.Common.{SpellsMember, with_non_nullable, ℕ, ◌∷◌, ◌≡◌}
use Rattle.smith_bytes.specs.Draws.{bool_at, range_at, ratio_at}
use Rattle.smith_bytes.specs.Growth.{grow_at}
use Rattle.smith_draw_types.specs.Choices.{chosen_at}
use Rattle.smith_draw_types.specs.Grounding.{is_grounded}
use Rattle.smith_draw_types.specs.ValueTypes.{sharedness_at, abstract_heap_type_at, type_index_at, heap_type_at, granted_at, ref_type_at}
use Rattle.smith_draw_types.specs.ValueTypes.{val_type_at}
use Rattle.smith_draw_types.specs.FieldTypes.{storage_type_at, field_type_at, fields_until_at}
use Rattle.smith_draw_types.specs.CompositeTypes.{val_types_at, func_type_at, struct_type_at, composite_type_at}
use Rattle.smith_draw_types.specs.Offered.{ancestors}
use Rattle.smith_draw_types.specs.SubTypes.{supertypes, root_type_at, sub_type_of_at, sub_type_at}
use Rattle.smith_draw_types.specs.RecGroups.{types_at, more_types_at, least_types_at, rec_group_at, clone_rec_group_at, new_group_at}
use Rattle.smith_draw_types.specs.RecGroups.{types_until_at}
use Rattle.smith_config.specs.Sanitized.{IsSanitized}
use Rattle.smith_config.specs.ExampleMembers.{array_and_struct, struct_and_holder, taking_a_number}
use Rattle.smith_config.specs.ExampleMembers.{one_of_each_without_gc}
use Rattle.smith_spell.proofs.FamilyFitLemmas.{family_fits}
use Rattle.smith_spell_examples.proofs.SpellExamples.{holder_in_family}
use Rattle.smith_spell_examples.proofs.SpelledExamples.{joined, any_byte, one_odd, bool_first, any_first, place_alone, without_nothing}
use Rattle.smith_spell_examples.proofs.SpelledMemberLemmas.{SpellsAfterGroups, member_read, no_functions, other_number}
use Rattle.smith_spell_examples.proofs.changed_bytes.types.Goals as goal

defaults_agree : IsSanitized default_config
defaults_agree = search rules

plain_agree : IsSanitized one_of_each_without_gc
plain_agree = search rules

holder_agrees : IsSanitized with_non_nullable
holder_agrees = search rules

function_fits : GroupsFit default_config [] one_function_type
function_fits = search rules

full_fits : GroupsFit one_of_each_without_gc [] (alone taking_a_number ∷ [])
full_fits = search rules

both_fit : GroupsFit default_config [] array_and_struct
both_fit = search rules

function_read : (bytes : List ℕ) {left : List ℕ} {space : GroupedTypes} → types_at default_config (no_functions default_config)
    (space_of []) bytes ≡ (space, left) → SpellsMember default_config one_function_type (0 ∷ []) bytes
    → (space ≡ space_of one_function_type) × SpellsAfterGroups default_config (space_of one_function_type).types (0 ∷ []) left
function_read bytes {left} {space} drawn h = member_read default_config one_function_type (0 ∷ []) bytes left space defaults_agree refl
    function_fits drawn h

full_read : (bytes : List ℕ) {left : List ℕ} {space : GroupedTypes} → types_at one_of_each_without_gc (no_functions one_of_each_without_gc)
    (space_of []) bytes ≡ (space, left) → SpellsMember one_of_each_without_gc (alone taking_a_number ∷ []) (0 ∷ []) bytes
    → (space ≡ space_of (alone taking_a_number ∷ [])) × SpellsAfterGroups one_of_each_without_gc
    (space_of (alone taking_a_number ∷ [])).types (0 ∷ []) left
full_read bytes {left} {space} drawn h = member_read one_of_each_without_gc (alone taking_a_number ∷ []) (0 ∷ []) bytes left space
    plain_agree refl full_fits drawn h

both_read : (bytes : List ℕ) {left : List ℕ} {space : GroupedTypes} → types_at default_config (no_functions default_config) (space_of [])
    bytes ≡ (space, left) → SpellsMember default_config array_and_struct [] bytes
    → (space ≡ space_of array_and_struct) × SpellsAfterGroups default_config (space_of array_and_struct).types [] left
both_read bytes {left} {space} drawn h = member_read default_config array_and_struct [] bytes left space defaults_agree refl both_fit drawn
    h

holder_read : (bytes : List ℕ) {left : List ℕ} {space : GroupedTypes} → types_at with_non_nullable (no_functions with_non_nullable)
    (space_of []) bytes ≡ (space, left) → SpellsMember with_non_nullable struct_and_holder [] bytes
    → (space ≡ space_of struct_and_holder) × SpellsAfterGroups with_non_nullable (space_of struct_and_holder).types [] left
holder_read bytes {left} {space} drawn h = member_read with_non_nullable struct_and_holder [] bytes left space holder_agrees refl
    (family_fits with_non_nullable struct_and_holder [] holder_in_family) drawn h

none_read : (bytes : List ℕ) {left : List ℕ} {space : GroupedTypes} → types_at default_config (no_functions default_config) (space_of [])
    bytes ≡ (space, left) → SpellsMember default_config [] [] bytes
    → (space ≡ space_of []) × SpellsAfterGroups default_config (space_of []).types [] left
none_read bytes {left} {space} drawn h = member_read default_config [] [] bytes left space defaults_agree refl tt drawn h

pub returns-clause-a_function : goal.returns-clause-a_function
unfolding types_at more_types_at least_types_at rec_group_at clone_rec_group_at new_group_at types_until_at bool_at range_at ratio_at
    digit_count chosen_at grow_at sub_type_at sub_type_of_at root_type_at supertypes sharedness_at composite_type_at func_type_at
    struct_type_at val_types_at fields_until_at field_type_at storage_type_at val_type_at ref_type_at granted_at heap_type_at type_index_at
    abstract_heap_type_at ancestors is_tag_type is_unshared_function Listed
returns-clause-a_function c = (
  (λ h. other_number _ _ refl (function_read _ refl h).0),
  (
    (λ h. other_number _ _ refl (function_read _ refl h).0),
    (
      (λ h. other_number _ _ refl (function_read _ refl h).0),
      (
        (λ h. other_number _ _ refl (function_read _ refl h).0),
        (
          (λ h. other_number _ _ refl (function_read _ refl h).0),
          (
            (λ h. other_number _ _ refl (function_read _ refl h).0),
            (
              (λ h. other_number _ _ refl (function_read _ refl h).0),
              (
                (λ h. cc (bool_first (function_read _ refl h).1).0),
                (
                  (λ h. cc (bool_first (any_first (bool_first (function_read _ refl h).1).1)).0),
                  (
                    (λ h. cc (bool_first (bool_first (any_first (bool_first (function_read _ refl h).1).1)).1).0),
                    ((λ h. one_odd (place_alone (bool_first (bool_first (any_first (bool_first (function_read _ refl h).1).1)).1).1)), tt),
                  ),
                ),
              ),
            ),
          ),
        ),
      ),
    ),
  ),
)

pub returns-clause-full_without_gc : goal.returns-clause-full_without_gc
unfolding types_at more_types_at least_types_at rec_group_at clone_rec_group_at new_group_at types_until_at bool_at range_at ratio_at
    digit_count chosen_at grow_at sub_type_at sub_type_of_at root_type_at supertypes sharedness_at composite_type_at func_type_at
    struct_type_at val_types_at fields_until_at field_type_at storage_type_at val_type_at ref_type_at granted_at heap_type_at type_index_at
    abstract_heap_type_at ancestors is_tag_type is_unshared_function Listed
returns-clause-full_without_gc c = (
  (λ h. other_number _ _ refl (full_read _ refl h).0),
  (
    (λ h. other_number _ _ refl (full_read _ refl h).0),
    (
      (λ h. other_number _ _ refl (full_read _ refl h).0),
      (
        (λ h. other_number _ _ refl (full_read _ refl h).0),
        (
          (λ h. other_number _ _ refl (full_read _ refl h).0),
          (
            (λ h. cc (bool_first (full_read _ refl h).1).0),
            (
              (λ h. cc (bool_first (any_first (bool_first (full_read _ refl h).1).1)).0),
              ((λ h. cc (bool_first (bool_first (any_first (bool_first (full_read _ refl h).1).1)).1).0), tt),
            ),
          ),
        ),
      ),
    ),
  ),
)

pub returns-clause-array_and_struct : goal.returns-clause-array_and_struct
unfolding types_at more_types_at least_types_at rec_group_at clone_rec_group_at new_group_at types_until_at bool_at range_at ratio_at
    digit_count chosen_at grow_at sub_type_at sub_type_of_at root_type_at supertypes sharedness_at composite_type_at func_type_at
    struct_type_at val_types_at fields_until_at field_type_at storage_type_at val_type_at ref_type_at granted_at heap_type_at type_index_at
    abstract_heap_type_at ancestors is_tag_type is_unshared_function Listed
returns-clause-array_and_struct c = (
  (λ h. other_number _ _ refl (both_read _ refl h).0),
  (
    (λ h. other_number _ _ refl (both_read _ refl h).0),
    (
      (λ h. other_number _ _ refl (both_read _ refl h).0),
      (
        (λ h. other_number _ _ refl (both_read _ refl h).0),
        (
          (λ h. other_number _ _ refl (both_read _ refl h).0),
          (
            (λ h. other_number _ _ refl (both_read _ refl h).0),
            (
              (λ h. other_number _ _ refl (both_read _ refl h).0),
              (
                (λ h. other_number _ _ refl (both_read _ refl h).0),
                (
                  (λ h. other_number _ _ refl (both_read _ refl h).0),
                  (
                    (λ h. other_number _ _ refl (both_read _ refl h).0),
                    (
                      (λ h. other_number _ _ refl (both_read _ refl h).0),
                      (
                        (λ h. other_number _ _ refl (both_read _ refl h).0),
                        (
                          (λ h. other_number _ _ refl (both_read _ refl h).0),
                          (
                            (λ h. other_number _ _ refl (both_read _ refl h).0),
                            (
                              (λ h. other_number _ _ refl (both_read _ refl h).0),
                              (
                                (λ h. other_number _ _ refl (both_read _ refl h).0),
                                (
                                  (λ h. other_number _ _ refl (both_read _ refl h).0),
                                  (
                                    (λ h. other_number _ _ refl (both_read _ refl h).0),
                                    ((λ h. cc (bool_first (both_read _ refl h).1).0), tt),
                                  ),
                                ),
                              ),
                            ),
                          ),
                        ),
                      ),
                    ),
                  ),
                ),
              ),
            ),
          ),
        ),
      ),
    ),
  ),
)

pub returns-clause-a_struct_of_a_reference_that_is_not_null : goal.returns-clause-a_struct_of_a_reference_that_is_not_null
unfolding types_at more_types_at least_types_at rec_group_at clone_rec_group_at new_group_at types_until_at bool_at range_at ratio_at
    digit_count chosen_at grow_at sub_type_at sub_type_of_at root_type_at supertypes sharedness_at composite_type_at func_type_at
    struct_type_at val_types_at fields_until_at field_type_at storage_type_at val_type_at ref_type_at granted_at is_grounded heap_type_at
    type_index_at abstract_heap_type_at ancestors is_tag_type is_unshared_function Listed
returns-clause-a_struct_of_a_reference_that_is_not_null c =
    ((λ h. other_number _ _ refl (holder_read _ refl h).0), ((λ h. other_number _ _ refl (holder_read _ refl h).0), tt))

pub returns-clause-nothing : goal.returns-clause-nothing
unfolding types_at more_types_at least_types_at rec_group_at clone_rec_group_at new_group_at types_until_at bool_at range_at ratio_at
    digit_count chosen_at grow_at sub_type_at sub_type_of_at root_type_at supertypes sharedness_at composite_type_at func_type_at
    struct_type_at val_types_at fields_until_at field_type_at storage_type_at val_type_at ref_type_at granted_at heap_type_at type_index_at
    abstract_heap_type_at ancestors is_tag_type is_unshared_function Listed
returns-clause-nothing c = ((λ h. other_number _ _ refl (none_read _ refl h).0), ((λ h. cc (bool_first (none_read _ refl h).1).0), tt))

pub returns-clause-a_byte_less : goal.returns-clause-a_byte_less
unfolding SpellsMember SpellsGroups
returns-clause-a_byte_less c = λ h. let flag = without_nothing (without_nothing h) in cc flag.whole

pub returns-clause-a_byte_more : goal.returns-clause-a_byte_more
unfolding SpellsMember SpellsGroups Listed
returns-clause-a_byte_more c = λ h. let following = any_first (without_nothing (without_nothing h)) in cc (without_nothing following)

pub returns-clause-another_import_flag : goal.returns-clause-another_import_flag
unfolding SpellsMember SpellsGroups Listed
returns-clause-another_import_flag c =
    joined [] (7 ∷ []) refl (joined [] (7 ∷ []) refl (joined (7 ∷ []) [] (any_byte 7) (joined [] [] refl refl)))
