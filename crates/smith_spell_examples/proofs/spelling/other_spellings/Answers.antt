use Rattle.smith_spell_examples.proofs.Common.{ap, refl, SpellsGroups, ◌%◌, ◌∙◌, ◌≡◌}
use Rattle.smith_spell_examples.proofs.SpelledExamples.{stop}
use Rattle.smith_spell_examples.proofs.spelling.other_spellings.Goals as goal

pub returns-clause-no_group_but_a_bool : goal.returns-clause-no_group_but_a_bool
unfolding SpellsGroups
returns-clause-no_group_but_a_bool c = stop

pub returns-clause-no_group_and_no_byte : goal.returns-clause-no_group_and_no_byte
unfolding SpellsGroups
returns-clause-no_group_and_no_byte c = λ spelled. cc spelled.whole

pub returns-clause-another_group : goal.returns-clause-another_group
unfolding SpellsGroups
returns-clause-another_group c = λ spelled. let same : 1 ≡ spelled.byte = cc spelled.whole in let never : 1 ≡ 0 =
    ap (λ n. n % 2) same ∙ spelled.lowest in cc never

pub returns-clause-a_full_list : goal.returns-clause-a_full_list
unfolding SpellsGroups
returns-clause-a_full_list c = refl

pub returns-clause-a_full_list_and_a_bool : goal.returns-clause-a_full_list_and_a_bool
unfolding SpellsGroups
returns-clause-a_full_list_and_a_bool c = λ spelled. cc spelled
