use Rattle.smith_spell_examples.proofs.Common.{[], ap, digit_count, Listed, refl, SpellsGroups, SpellsMember, ◌∙◌, ◌∷◌, ◌≡◌}
use Rattle.std.proofs.Common.{◌++◌}
use Rattle.smith_spell_examples.proofs.SpelledExamples.{joined, stop, any_byte, one_function_spelled}
use Rattle.smith_spell_examples.proofs.SpellExamples.{nothing_spellable, function_spellable}
use Rattle.smith_spell_examples.proofs.spell_answers.spelled.Goals as goal

pub returns-clause-nothing : goal.returns-clause-nothing
unfolding SpellsMember SpellsGroups Listed
returns-clause-nothing c = (
  nothing_spellable,
  joined (0 ∷ []) (0 ∷ 0 ∷ []) stop
      (joined (0 ∷ []) (0 ∷ []) stop (joined (0 ∷ []) [] (any_byte 0) (joined [] [] refl refl))),
)

pub returns-clause-a_function : goal.returns-clause-a_function
unfolding digit_count
returns-clause-a_function c = (
  function_spellable,
  one_function_spelled 1 1 1 1 0 0 0 0 0 0 1 0 refl (record { digits = refl; read = refl }) refl (record { digits = refl; read = refl })
      refl refl refl refl refl refl refl,
)

pub returns-clause-nothing_by_no_byte : goal.returns-clause-nothing_by_no_byte
unfolding SpellsMember SpellsGroups
returns-clause-nothing_by_no_byte c = λ answer.
    let (spellable, spelled) = answer in
    let never : [] ≡ spelled.is_first.byte ∷ spelled.second = spelled.whole ∙ ap (λ one. one ++ spelled.second) spelled.is_first.whole in
    cc never
