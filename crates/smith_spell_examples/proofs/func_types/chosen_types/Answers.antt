use Rattle.smith_spell_examples.proofs.Common.{is_tag_type, is_unshared_function, refl}
use Rattle.smith_spell_examples.proofs.func_types.chosen_types.Goals as goal

pub returns-clause-functions_alone : goal.returns-clause-functions_alone
unfolding is_unshared_function
returns-clause-functions_alone c = refl

pub returns-clause-no_shared_function : goal.returns-clause-no_shared_function
unfolding is_unshared_function
returns-clause-no_shared_function c = refl

pub returns-clause-tag : goal.returns-clause-tag
unfolding is_tag_type
returns-clause-tag c = refl

pub returns-clause-no_tag_with_results : goal.returns-clause-no_tag_with_results
unfolding is_tag_type
returns-clause-no_tag_with_results c = refl

pub returns-clause-no_tag_of_an_array : goal.returns-clause-no_tag_of_an_array
unfolding is_tag_type
returns-clause-no_tag_of_an_array c = refl
