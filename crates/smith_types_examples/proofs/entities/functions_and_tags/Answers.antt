use Rattle.smith_types_examples.proofs.Common.{[], ◌∷◌, refl, I32, final_type, plain_func, giving, taking}
use Rattle.smith_types_examples.proofs.entities.functions_and_tags.Goals as goal

pub returns-clause-function : goal.returns-clause-function
returns-clause-function c = (record { params = []; results = I32 ∷ [] }, (final_type (giving (I32 ∷ [])), refl, refl))

pub returns-clause-tag : goal.returns-clause-tag
returns-clause-tag c = (record { params = []; results = [] }, (final_type plain_func, refl, refl), refl)

pub returns-clause-tag_with_a_value : goal.returns-clause-tag_with_a_value
returns-clause-tag_with_a_value c = (record { params = I32 ∷ []; results = [] }, (final_type (taking (I32 ∷ [])), refl, refl), refl)
