use Rattle.smith_spell_examples.proofs.Common.{[], arith, default_config, digit_count, Listed, refl, SpellsBytes, SpellsGlobal, ◌∷◌, ◌≡◌}
use Rattle.std.specs.Prelude.{pos}
use Rattle.smith_spell_examples.proofs.SpelledExamples.{joined, go, stop, one_odd, bool_first, digit_first, this_first, without_nothing}
use Rattle.smith_spell_examples.proofs.SpelledExamples.{not_shared, global_parts}
use Rattle.smith_spell_examples.proofs.spelling.parts_of_rests.Goals as goal

pub returns-clause-a_number : goal.returns-clause-a_number
unfolding SpellsGlobal digit_count
returns-clause-a_number c =
    joined (0 ∷ 1 ∷ []) (0 ∷ 255 ∷ 255 ∷ 255 ∷ 255 ∷ []) (joined (0 ∷ []) (1 ∷ []) (record { digits = refl; read = refl })
    (joined [] (1 ∷ []) refl go))
    (joined (0 ∷ []) (255 ∷ 255 ∷ 255 ∷ 255 ∷ []) (record { digits = refl; read = refl }) (record { four = refl; read = refl }))

pub returns-clause-another_class : goal.returns-clause-another_class
unfolding SpellsGlobal digit_count
returns-clause-another_class c = λ h. cc (digit_first refl (global_parts default_config (pos 7) h)).0

pub returns-clause-a_constant_number : goal.returns-clause-a_constant_number
unfolding SpellsGlobal digit_count
returns-clause-a_constant_number c = λ h. cc (bool_first (without_nothing (digit_first refl (global_parts default_config (pos 7) h)).1)).0

pub returns-clause-a_sum : goal.returns-clause-a_sum
unfolding SpellsGlobal digit_count
returns-clause-a_sum c =
    λ h. cc (digit_first refl (bool_first (without_nothing (digit_first refl (global_parts default_config (pos 7) h)).1)).1).0

pub returns-clause-where_there_are_no_sums : goal.returns-clause-where_there_are_no_sums
unfolding SpellsGlobal digit_count
returns-clause-where_there_are_no_sums c =
    joined (0 ∷ 1 ∷ []) (7 ∷ 0 ∷ 0 ∷ 0 ∷ []) (joined (0 ∷ []) (1 ∷ []) (record { digits = refl; read = refl }) (joined [] (1 ∷ []) refl go))
    (joined [] (7 ∷ 0 ∷ 0 ∷ 0 ∷ []) refl (record { four = refl; read = refl }))

pub returns-clause-where_types_may_be_shared : goal.returns-clause-where_types_may_be_shared
unfolding SpellsGlobal digit_count
returns-clause-where_types_may_be_shared c =
    joined (0 ∷ 1 ∷ 1 ∷ []) (0 ∷ 7 ∷ 0 ∷ 0 ∷ 0 ∷ []) (joined (0 ∷ []) (1 ∷ 1 ∷ []) (record { digits = refl; read = refl })
    (joined (1 ∷ []) (1 ∷ []) not_shared go))
    (joined (0 ∷ []) (7 ∷ 0 ∷ 0 ∷ 0 ∷ []) (record { digits = refl; read = refl }) (record { four = refl; read = refl }))

pub returns-clause-two_bytes : goal.returns-clause-two_bytes
unfolding SpellsBytes
returns-clause-two_bytes c =
    joined (1 ∷ []) (42 ∷ 1 ∷ 0 ∷ 0 ∷ []) go
    (joined (42 ∷ []) (1 ∷ 0 ∷ 0 ∷ []) refl (joined (1 ∷ []) (0 ∷ 0 ∷ []) go (joined (0 ∷ []) (0 ∷ []) refl stop)))

pub returns-clause-another_byte : goal.returns-clause-another_byte
unfolding SpellsBytes
returns-clause-another_byte c = λ h. let same : 41 ≡ 42 = (this_first (bool_first h).1).0 in omega (arith, same)

pub returns-clause-no_end_of_bytes : goal.returns-clause-no_end_of_bytes
unfolding SpellsBytes
returns-clause-no_end_of_bytes c = λ h. cc h.whole

pub returns-clause-a_start : goal.returns-clause-a_start
returns-clause-a_start c = one_odd

pub returns-clause-segments_without_bulk_memory : goal.returns-clause-segments_without_bulk_memory
unfolding Listed
returns-clause-segments_without_bulk_memory c = joined [] [] refl refl

pub returns-clause-data_without_bulk_memory : goal.returns-clause-data_without_bulk_memory
unfolding Listed
returns-clause-data_without_bulk_memory c = λ h. h.is_second

pub returns-clause-a_bool_without_bulk_memory : goal.returns-clause-a_bool_without_bulk_memory
unfolding Listed
returns-clause-a_bool_without_bulk_memory c = λ h. cc (without_nothing h)
