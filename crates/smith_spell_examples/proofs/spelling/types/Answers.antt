use Rattle.smith_spell_examples.proofs.Common.{[], arith, digit_count, refl, ◌<◌, ◌∷◌}
use Rattle.smith_spell_examples.proofs.SpelledExamples.{joined, refused_first, no_clone, not_shared}
use Rattle.smith_spell_examples.proofs.spelling.types.Goals as goal

pub returns-clause-byte_field : goal.returns-clause-byte_field
unfolding digit_count
returns-clause-byte_field c = record { digits = refl; read = refl }

pub returns-clause-abstract_type : goal.returns-clause-abstract_type
unfolding digit_count
returns-clause-abstract_type c = (
  refl,
  joined [] (0 ∷ []) refl
      (joined [] (0 ∷ []) refl (record { place = 0; stands = refl; number = record { digits = refl; read = refl } })),
)

pub returns-clause-sharedness : goal.returns-clause-sharedness
returns-clause-sharedness c = not_shared

pub returns-clause-a_group_after_another : goal.returns-clause-a_group_after_another
unfolding digit_count
returns-clause-a_group_after_another c = joined (1 ∷ []) (1 ∷ []) no_clone (record { digits = refl; read = refl })

pub returns-clause-a_group_that_is_cloned : goal.returns-clause-a_group_that_is_cloned
unfolding digit_count
returns-clause-a_group_that_is_cloned c = λ both. let (later, rest) = refused_first refl both in let never : 1 < 1 = later in
    omega (arith, never)

pub returns-clause-not_null : goal.returns-clause-not_null
returns-clause-not_null c = λ reference. let never = reference.form.is_second.0 in cc never
