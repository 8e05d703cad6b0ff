use Rattle.smith_spell_examples.proofs.Common.{[], arith, digit_count, refl, SpellsField, SpellsGroup, SpellsNothing, SpellsNumber}
use Rattle.smith_spell_examples.proofs.Common.{SpellsSubTypes, ◌<◌, ◌∷◌}
use Rattle.smith_spell_examples.proofs.SpelledExamples.{joined, go, stop, no_supertype, not_shared, digit_first, refused_first}
use Rattle.smith_spell_examples.proofs.SpelledExamples.{without_nothing, opened}
use Rattle.smith_spell_examples.proofs.spelled_types.types.Goals as goal

pub returns-clause-an_array : goal.returns-clause-an_array
unfolding SpellsField digit_count
returns-clause-an_array c =
    let array = joined (0 ∷ []) (0 ∷ 0 ∷ []) (record { digits = refl; read = refl })
    (joined (0 ∷ []) (0 ∷ []) (record { digits = refl; read = refl }) stop) in
    record { unshared = refl; form = joined [] (0 ∷ 0 ∷ 0 ∷ []) refl array }

pub returns-clause-an_array_where_types_may_be_shared : goal.returns-clause-an_array_where_types_may_be_shared
unfolding SpellsField digit_count
returns-clause-an_array_where_types_may_be_shared c =
    let array = joined (0 ∷ []) (0 ∷ 0 ∷ []) (record { digits = refl; read = refl })
    (joined (0 ∷ []) (0 ∷ []) (record { digits = refl; read = refl }) stop) in
    record { unshared = refl; form = joined (1 ∷ []) (0 ∷ 0 ∷ 0 ∷ []) not_shared array }

pub returns-clause-after_an_open_type : goal.returns-clause-after_an_open_type
unfolding SpellsField digit_count
returns-clause-after_an_open_type c =
    let array = joined (0 ∷ []) (0 ∷ 0 ∷ []) (record { digits = refl; read = refl })
    (joined (0 ∷ []) (0 ∷ []) (record { digits = refl; read = refl }) stop) in
    record {
      root = refl;
      unshared = refl;
      form = joined (1 ∷ []) (1 ∷ 0 ∷ 0 ∷ 0 ∷ []) no_supertype
          (joined (1 ∷ []) (0 ∷ 0 ∷ 0 ∷ []) go (joined [] (0 ∷ 0 ∷ 0 ∷ []) refl array));
    }

pub returns-clause-after_a_final_type : goal.returns-clause-after_a_final_type
unfolding SpellsField digit_count
returns-clause-after_a_final_type c =
    let array = joined (0 ∷ []) (0 ∷ 0 ∷ []) (record { digits = refl; read = refl })
    (joined (0 ∷ []) (0 ∷ []) (record { digits = refl; read = refl }) stop) in
    record {
      root = refl;
      unshared = refl;
      form = joined [] (1 ∷ 0 ∷ 0 ∷ 0 ∷ []) refl
          (joined (1 ∷ []) (0 ∷ 0 ∷ 0 ∷ []) go (joined [] (0 ∷ 0 ∷ 0 ∷ []) refl array));
    }

pub returns-clause-below_an_open_type : goal.returns-clause-below_an_open_type
unfolding digit_count
returns-clause-below_an_open_type c = λ t. let (later, rest) = refused_first refl t.form in let never : 1 < 1 = later in
    omega (arith, never)

pub returns-clause-an_empty_group : goal.returns-clause-an_empty_group
unfolding SpellsGroup SpellsSubTypes digit_count
returns-clause-an_empty_group c = joined (0 ∷ []) [] (joined [] (0 ∷ []) refl (record { digits = refl; read = refl })) refl

pub returns-clause-a_group_of_one : goal.returns-clause-a_group_of_one
unfolding SpellsGroup SpellsSubTypes digit_count
returns-clause-a_group_of_one c =
    λ h. cc (digit_first refl (without_nothing (opened SpellsNothing (SpellsNumber 0 0 100) h (λ part is. is)))).0

pub returns-clause-a_list_as_an_array : goal.returns-clause-a_list_as_an_array
unfolding digit_count
returns-clause-a_list_as_an_array c = λ composite. cc (digit_first refl (without_nothing composite.form)).0
