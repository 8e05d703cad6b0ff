use Rattle.smith_spell_examples.proofs.Common.{[], digit_count, is_tag_type, is_unshared_function, Listed, refl, ◌∷◌}
use Rattle.smith_spell_examples.proofs.SpelledExamples.{joined, go, stop, one_odd, bool_first, place_first}
use Rattle.smith_spell_examples.proofs.spelling.parts_of_members.Goals as goal

pub returns-clause-a_turn : goal.returns-clause-a_turn
returns-clause-a_turn c = one_odd

pub returns-clause-no_tag : goal.returns-clause-no_tag
unfolding is_tag_type
returns-clause-no_tag c = stop

pub returns-clause-a_tag : goal.returns-clause-a_tag
unfolding is_tag_type
returns-clause-a_tag c = one_odd

pub returns-clause-second_function_type : goal.returns-clause-second_function_type
unfolding is_unshared_function Listed digit_count
returns-clause-second_function_type c =
    joined (1 ∷ []) (1 ∷ 0 ∷ []) go
    (joined (1 ∷ []) (0 ∷ []) (record { place = 1; stands = refl; number = record { digits = refl; read = refl } }) stop)

pub returns-clause-first_function_type : goal.returns-clause-first_function_type
unfolding is_unshared_function Listed digit_count
returns-clause-first_function_type c = λ h. cc (place_first refl (bool_first h).1).0

pub returns-clause-no_tag_of_a_type_with_results : goal.returns-clause-no_tag_of_a_type_with_results
unfolding is_tag_type
returns-clause-no_tag_of_a_type_with_results c = refl

pub returns-clause-no_function_type : goal.returns-clause-no_function_type
unfolding is_unshared_function Listed
returns-clause-no_function_type c = refl

pub returns-clause-a_bool_without_function_type : goal.returns-clause-a_bool_without_function_type
unfolding is_unshared_function Listed
returns-clause-a_bool_without_function_type c = λ h. cc h

pub returns-clause-a_function_too_many : goal.returns-clause-a_function_too_many
unfolding is_unshared_function Listed
returns-clause-a_function_too_many c = λ spelled. spelled

pub returns-clause-a_function_of_no_type : goal.returns-clause-a_function_of_no_type
unfolding is_unshared_function Listed
returns-clause-a_function_of_no_type c = λ spelled. spelled
