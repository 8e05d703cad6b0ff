use Rattle.smith_spell_examples.proofs.Common.{[], digit_count, Listed, refl, SpellsBytes, SpellsGlobal, ◌∷◌}
use Rattle.smith_spell.specs.Spelling.{SpellsRest}
use Rattle.smith_spell_examples.proofs.SpelledExamples.{joined, go, stop, any_byte}
use Rattle.smith_spell_examples.proofs.spelling.rests.Goals as goal

pub returns-clause-a_number : goal.returns-clause-a_number
unfolding SpellsRest SpellsGlobal Listed digit_count
returns-clause-a_number c =
    let type = joined (0 ∷ []) (1 ∷ []) (record { digits = refl; read = refl }) (joined [] (1 ∷ []) refl go) in
    let constant = joined (0 ∷ []) (7 ∷ 0 ∷ 0 ∷ 0 ∷ []) (record { digits = refl; read = refl }) (record { four = refl; read = refl }) in
    let number = joined (0 ∷ 1 ∷ []) (0 ∷ 7 ∷ 0 ∷ 0 ∷ 0 ∷ []) type constant in
    let globals = joined (1 ∷ []) (0 ∷ 1 ∷ 0 ∷ 7 ∷ 0 ∷ 0 ∷ 0 ∷ 0 ∷ []) go (joined (0 ∷ 1 ∷ 0 ∷ 7 ∷ 0 ∷ 0 ∷ 0 ∷ []) (0 ∷ []) number stop) in
    joined (0 ∷ []) (0 ∷ 1 ∷ 0 ∷ 1 ∷ 0 ∷ 7 ∷ 0 ∷ 0 ∷ 0 ∷ 0 ∷ 0 ∷ 0 ∷ 0 ∷ 0 ∷ []) stop
    (joined (0 ∷ []) (1 ∷ 0 ∷ 1 ∷ 0 ∷ 7 ∷ 0 ∷ 0 ∷ 0 ∷ 0 ∷ 0 ∷ 0 ∷ 0 ∷ 0 ∷ []) stop
    (joined (1 ∷ 0 ∷ 1 ∷ 0 ∷ 7 ∷ 0 ∷ 0 ∷ 0 ∷ 0 ∷ []) (0 ∷ 0 ∷ 0 ∷ 0 ∷ []) globals
    (joined (0 ∷ []) (0 ∷ 0 ∷ 0 ∷ []) stop
    (joined (0 ∷ []) (0 ∷ 0 ∷ []) (any_byte 0) (joined [] (0 ∷ 0 ∷ []) refl (joined (0 ∷ []) (0 ∷ []) stop stop))))))

pub returns-clause-data : goal.returns-clause-data
unfolding SpellsRest SpellsBytes Listed
returns-clause-data c =
    let bytes = joined (1 ∷ []) (42 ∷ 0 ∷ []) go (joined (42 ∷ []) (0 ∷ []) refl stop) in
    let lists = joined (1 ∷ []) (1 ∷ 42 ∷ 0 ∷ 0 ∷ []) go (joined (1 ∷ 42 ∷ 0 ∷ []) (0 ∷ []) bytes stop) in
    joined (0 ∷ []) (0 ∷ 0 ∷ 0 ∷ 0 ∷ 0 ∷ 1 ∷ 1 ∷ 42 ∷ 0 ∷ 0 ∷ []) stop
    (joined (0 ∷ []) (0 ∷ 0 ∷ 0 ∷ 0 ∷ 1 ∷ 1 ∷ 42 ∷ 0 ∷ 0 ∷ []) stop
    (joined (0 ∷ []) (0 ∷ 0 ∷ 0 ∷ 1 ∷ 1 ∷ 42 ∷ 0 ∷ 0 ∷ []) stop
    (joined (0 ∷ []) (0 ∷ 0 ∷ 1 ∷ 1 ∷ 42 ∷ 0 ∷ 0 ∷ []) stop
    (joined (0 ∷ []) (0 ∷ 1 ∷ 1 ∷ 42 ∷ 0 ∷ 0 ∷ []) (any_byte 0)
    (joined [] (0 ∷ 1 ∷ 1 ∷ 42 ∷ 0 ∷ 0 ∷ []) refl (joined (0 ∷ []) (1 ∷ 1 ∷ 42 ∷ 0 ∷ 0 ∷ []) stop lists))))))

pub returns-clause-no_start : goal.returns-clause-no_start
unfolding SpellsRest Listed
returns-clause-no_start c =
    joined (0 ∷ []) (0 ∷ 0 ∷ 0 ∷ 0 ∷ 0 ∷ 0 ∷ []) stop
    (joined (0 ∷ []) (0 ∷ 0 ∷ 0 ∷ 0 ∷ 0 ∷ []) stop
    (joined (0 ∷ []) (0 ∷ 0 ∷ 0 ∷ 0 ∷ []) stop
    (joined (0 ∷ []) (0 ∷ 0 ∷ 0 ∷ []) stop
    (joined [] (0 ∷ 0 ∷ 0 ∷ []) refl (joined (0 ∷ []) (0 ∷ 0 ∷ []) stop (joined (0 ∷ []) (0 ∷ []) stop stop))))))

pub returns-clause-nothing_but_a_flag : goal.returns-clause-nothing_but_a_flag
unfolding SpellsRest Listed
returns-clause-nothing_but_a_flag c =
    joined [] (1 ∷ []) refl
    (joined [] (1 ∷ []) refl
    (joined [] (1 ∷ []) refl (joined [] (1 ∷ []) refl (joined (1 ∷ []) [] (any_byte 1) (joined [] [] refl (joined [] [] refl refl))))))
