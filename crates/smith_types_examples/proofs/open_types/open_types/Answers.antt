use Rattle.smith_types_examples.proofs.Common.{arith, [], ◌∷◌, refl, All-head, IsGroupValid, usual_features, final_type, empty_struct}
use Rattle.smith_types_examples.proofs.Common.{referring, referring_type, range}
use Rattle.smith_types_examples.proofs.TypeExamples.{itself_not_before, referring_after, referring_alone}
use Rattle.smith_types_examples.proofs.open_types.open_types.Goals as goal

pub returns-clause-referring_past_the_end : goal.returns-clause-referring_past_the_end
returns-clause-referring_past_the_end c = λ open_types. referring_alone usual_features (referring_type ∷ [])
    (open_types.following 0 referring_type (omega arith) refl)

pub returns-clause-below_itself : goal.returns-clause-below_itself
returns-clause-below_itself c = λ open_types. itself_not_before open_types.orderly

pub returns-clause-a_group_that_is_not_valid : goal.returns-clause-a_group_that_is_not_valid
returns-clause-a_group_that_is_not_valid c = λ open_types. referring_after usual_features (All-head (IsGroupValid usual_features referring)
    (range 0 1) [] open_types.groups)

pub returns-clause-a_type_that_is_not_enabled : goal.returns-clause-a_type_that_is_not_enabled
returns-clause-a_type_that_is_not_enabled c = λ open_types. let never =
    (open_types.following 0 (final_type empty_struct) (omega arith) refl).enabled.inner in cc never
