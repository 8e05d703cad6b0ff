use Rattle.smith_spell_examples.proofs.Common.{[], digit_count, enabled, false, Joined, refl, SpellsNothing, SpellsPlace, SpellsValType}
use Rattle.smith_spell_examples.proofs.Common.{true, with_non_nullable, ◌∷◌}
use Rattle.smith_types.specs.Syntax.value_type.AbstractHeapType.TheVariants.{Func}
use Rattle.smith_draw_types.specs.ValueTypes.{abstract_heap_types}
use Rattle.smith_spell_examples.proofs.SpelledExamples.{joined, go, stop, one_odd, zero_even, place_first, without_nothing, opened}
use Rattle.smith_spell_examples.proofs.SpelledExamples.{after_reference}
use Rattle.smith_spell_examples.proofs.spelled_types.nullability.Goals as goal

pub returns-clause-nullable : goal.returns-clause-nullable
unfolding digit_count
returns-clause-nullable c =
    record { enabled = refl; form = joined (1 ∷ []) (0 ∷ []) (refl, joined (1 ∷ []) [] go (record { digits = refl; read = refl })) stop }

pub returns-clause-not_nullable : goal.returns-clause-not_nullable
unfolding digit_count
returns-clause-not_nullable c =
    record { enabled = refl; form = joined (1 ∷ []) (1 ∷ []) (refl, joined (1 ∷ []) [] go (record { digits = refl; read = refl })) go }

pub returns-clause-not_nullable_of_two : goal.returns-clause-not_nullable_of_two
unfolding digit_count
returns-clause-not_nullable_of_two c =
    record {
      enabled = refl;
      form = joined (1 ∷ 0 ∷ []) (1 ∷ []) (refl, joined (1 ∷ []) (0 ∷ []) go (record { digits = refl; read = refl }))
          go;
    }

pub returns-clause-not_nullable_and_abstract : goal.returns-clause-not_nullable_and_abstract
unfolding digit_count
returns-clause-not_nullable_and_abstract c = record {
  enabled = refl;
  form = joined (3 ∷ []) (1 ∷ []) (
    refl,
    joined [] (3 ∷ []) refl
        (joined [] (3 ∷ []) refl (record { place = 3; stands = refl; number = record { digits = refl; read = refl } })),
  ) go;
}

pub returns-clause-nullable_by_another_bool : goal.returns-clause-nullable_by_another_bool
returns-clause-nullable_by_another_bool c = λ h. one_odd (after_reference true true (1 ∷ []) h)

pub returns-clause-not_nullable_by_another_bool : goal.returns-clause-not_nullable_by_another_bool
returns-clause-not_nullable_by_another_bool c = λ h. zero_even (after_reference true false (0 ∷ []) h)

pub returns-clause-no_bool : goal.returns-clause-no_bool
returns-clause-no_bool c = λ h. cc (after_reference true true [] h).whole

pub returns-clause-a_bool_before_the_heap_type : goal.returns-clause-a_bool_before_the_heap_type
unfolding digit_count
returns-clause-a_bool_before_the_heap_type c = λ h.
    let place = SpellsPlace (enabled (abstract_heap_types with_non_nullable)) Func in
    let unshared = without_nothing (opened SpellsNothing (Joined SpellsNothing place) h.form (λ part stands. stands.1)) in
    cc (place_first refl (without_nothing (opened SpellsNothing place unshared (λ part is. is)))).0

pub returns-clause-a_value_type : goal.returns-clause-a_value_type
unfolding SpellsValType digit_count
returns-clause-a_value_type c =
    joined (5 ∷ []) (1 ∷ 1 ∷ []) (record { place = 5; stands = refl; number = record { digits = refl; read = refl } })
    (record { enabled = refl; form = joined (1 ∷ []) (1 ∷ []) (refl, joined (1 ∷ []) [] go (record { digits = refl; read = refl })) go })

pub returns-clause-a_value_type_without_a_bool : goal.returns-clause-a_value_type_without_a_bool
unfolding SpellsValType digit_count
returns-clause-a_value_type_without_a_bool c = λ h. cc (after_reference true false [] (place_first refl h).1).whole
