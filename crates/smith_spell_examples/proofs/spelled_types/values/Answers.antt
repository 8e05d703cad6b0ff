use Rattle.smith_spell_examples.proofs.Common.{[], digit_count, enabled, false, I32, Listed, refl, SpellsBool, SpellsField, SpellsFuncType}
use Rattle.smith_spell_examples.proofs.Common.{SpellsNothing, SpellsNumber, SpellsPlace, SpellsValType, true, ◌∷◌}
use Rattle.smith_bytes.specs.Spelling.{Each}
use Rattle.smith_draw_types.specs.Spelling.{class_of, SpellsStructType}
use Rattle.smith_draw_types.specs.ValueTypes.{value_classes}
use Rattle.smith_config.specs.ExampleMembers.{single_results}
use Rattle.smith_spell_examples.proofs.SpelledExamples.{joined, go, stop, one_odd, bool_first, digit_first, place_first, without_nothing}
use Rattle.smith_spell_examples.proofs.SpelledExamples.{opened, after_reference}
use Rattle.smith_spell_examples.proofs.spelled_types.values.Goals as goal

pub returns-clause-a_reference : goal.returns-clause-a_reference
unfolding digit_count
returns-clause-a_reference c =
    record { enabled = refl; form = joined (1 ∷ []) [] (refl, joined (1 ∷ []) [] go (record { digits = refl; read = refl })) (refl, refl) }

pub returns-clause-a_reference_of_two : goal.returns-clause-a_reference_of_two
unfolding digit_count
returns-clause-a_reference_of_two c =
    record {
      enabled = refl;
      form = joined (1 ∷ 1 ∷ []) [] (refl, joined (1 ∷ []) (1 ∷ []) go (record { digits = refl; read = refl }))
          (refl, refl);
    }

pub returns-clause-a_number : goal.returns-clause-a_number
unfolding SpellsValType digit_count
returns-clause-a_number c = joined (7 ∷ []) [] (record { place = 1; stands = refl; number = record { digits = refl; read = refl } }) refl

pub returns-clause-another_number : goal.returns-clause-another_number
unfolding SpellsValType digit_count
returns-clause-another_number c = λ h. cc (place_first refl h).0

pub returns-clause-a_float_where_floats_are_off : goal.returns-clause-a_float_where_floats_are_off
unfolding SpellsValType digit_count
returns-clause-a_float_where_floats_are_off c = λ h. cc (place_first refl h).0

pub returns-clause-a_mutable_byte : goal.returns-clause-a_mutable_byte
unfolding SpellsField digit_count
returns-clause-a_mutable_byte c = joined (0 ∷ []) (1 ∷ []) (record { digits = refl; read = refl }) go

pub returns-clause-a_constant_byte : goal.returns-clause-a_constant_byte
unfolding SpellsField digit_count
returns-clause-a_constant_byte c = λ h. one_odd (digit_first refl h).1

pub returns-clause-one_result : goal.returns-clause-one_result
unfolding SpellsFuncType SpellsValType Listed digit_count
returns-clause-one_result c =
    let number = joined (0 ∷ []) [] (record { place = 0; stands = refl; number = record { digits = refl; read = refl } }) refl in
    joined (0 ∷ []) (1 ∷ 0 ∷ []) stop (joined (1 ∷ []) (0 ∷ []) go (joined (0 ∷ []) [] number refl))

pub returns-clause-one_result_and_a_bool : goal.returns-clause-one_result_and_a_bool
unfolding SpellsFuncType SpellsValType Listed digit_count
returns-clause-one_result_and_a_bool c = λ h.
    let result = (bool_first (bool_first h).1).1 in
    let place = SpellsPlace (enabled (value_classes single_results)) (class_of I32) in
    cc (without_nothing (place_first refl (opened place SpellsNothing result (λ part is. is))).1)

pub returns-clause-one_field : goal.returns-clause-one_field
unfolding SpellsStructType SpellsField Each digit_count
returns-clause-one_field c =
    let field = joined (0 ∷ []) (0 ∷ []) (record { digits = refl; read = refl }) stop in
    joined (1 ∷ []) (0 ∷ 0 ∷ []) (record { digits = refl; read = refl }) (joined (0 ∷ 0 ∷ []) [] field refl)

pub returns-clause-two_fields : goal.returns-clause-two_fields
unfolding SpellsStructType digit_count
returns-clause-two_fields c = λ h. cc (digit_first refl h).0

pub returns-clause-no_field_once_round : goal.returns-clause-no_field_once_round
unfolding SpellsStructType Each digit_count
returns-clause-no_field_once_round c = joined (21 ∷ []) [] (record { digits = refl; read = refl }) refl

pub returns-clause-a_reference_to_another : goal.returns-clause-a_reference_to_another
unfolding digit_count
returns-clause-a_reference_to_another c =
    λ h. cc (digit_first refl (bool_first (opened (SpellsBool true) (SpellsNumber 1 0 1) h.form (λ part stands. stands.1))).1).0

pub returns-clause-a_reference_that_is_not_null : goal.returns-clause-a_reference_that_is_not_null
returns-clause-a_reference_that_is_not_null c = λ h. cc (after_reference false false [] h).0

pub returns-clause-a_reference_and_a_bool : goal.returns-clause-a_reference_and_a_bool
returns-clause-a_reference_and_a_bool c = λ h. cc (after_reference false true (0 ∷ []) h).1
