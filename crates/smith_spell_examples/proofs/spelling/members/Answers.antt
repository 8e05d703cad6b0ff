use Rattle.smith_spell_examples.proofs.Common.{[], digit_count, is_tag_type, is_unshared_function, Listed, refl, SpellsField}
use Rattle.smith_spell_examples.proofs.Common.{SpellsFuncType, SpellsGroup, SpellsGroups, SpellsMember, SpellsSubTypes, SpellsValType, ◌∷◌}
use Rattle.smith_bytes.specs.Spelling.{Each}
use Rattle.smith_draw_types.specs.Spelling.{SpellsStructType}
use Rattle.smith_spell_examples.proofs.SpelledExamples.{joined, go, stop, any_byte, no_clone, one_function_spelled}
use Rattle.smith_spell_examples.proofs.spelling.members.Goals as goal

pub returns-clause-a_function : goal.returns-clause-a_function
unfolding digit_count
returns-clause-a_function c =
    one_function_spelled 1 1 1 1 0 0 0 0 0 0 1 0 refl (record { digits = refl; read = refl }) refl (record { digits = refl; read = refl })
    refl refl refl refl refl refl refl

pub returns-clause-in_other_bytes : goal.returns-clause-in_other_bytes
unfolding digit_count
returns-clause-in_other_bytes c =
    one_function_spelled 3 102 255 4 2 4 8 6 9 2 5 200 refl (record { digits = refl; read = refl }) refl
    (record { digits = refl; read = refl }) refl refl refl refl refl refl refl

pub returns-clause-nothing : goal.returns-clause-nothing
unfolding SpellsMember SpellsGroups Listed
returns-clause-nothing c =
    joined (0 ∷ []) (0 ∷ 0 ∷ []) stop (joined (0 ∷ []) (0 ∷ []) stop (joined (0 ∷ []) [] (any_byte 0) (joined [] [] refl refl)))

pub returns-clause-nothing_where_nothing_may_be : goal.returns-clause-nothing_where_nothing_may_be
unfolding SpellsMember SpellsGroups Listed
returns-clause-nothing_where_nothing_may_be c =
    joined [] (0 ∷ []) refl (joined [] (0 ∷ []) refl (joined (0 ∷ []) [] (any_byte 0) (joined [] [] refl refl)))

pub returns-clause-full_without_gc : goal.returns-clause-full_without_gc
unfolding SpellsMember SpellsGroups SpellsGroup SpellsSubTypes SpellsFuncType SpellsValType Listed digit_count is_tag_type
    is_unshared_function
returns-clause-full_without_gc c =
    let number = joined (0 ∷ []) [] (record { place = 0; stands = refl; number = record { digits = refl; read = refl } }) refl in
    let lists = joined (1 ∷ 0 ∷ 0 ∷ []) (0 ∷ []) (joined (1 ∷ []) (0 ∷ 0 ∷ []) go (joined (0 ∷ []) (0 ∷ []) number stop)) stop in
    let types = joined (1 ∷ 0 ∷ 0 ∷ 0 ∷ []) [] (record { root = refl; unshared = refl; form = (refl, lists) }) refl in
    let groups = joined (1 ∷ []) (1 ∷ 0 ∷ 0 ∷ 0 ∷ []) go (joined (1 ∷ 0 ∷ 0 ∷ 0 ∷ []) [] (joined [] (1 ∷ 0 ∷ 0 ∷ 0 ∷ []) (refl, refl) types)
    refl) in
    let funcs = joined (1 ∷ []) [] go (joined [] [] (record { place = 0; stands = refl; number = record { digits = refl; read = refl } })
    refl) in
    joined (1 ∷ 1 ∷ 0 ∷ 0 ∷ 0 ∷ []) (0 ∷ 0 ∷ 0 ∷ 1 ∷ []) groups
    (joined (0 ∷ []) (0 ∷ 0 ∷ 1 ∷ []) stop (joined (0 ∷ []) (0 ∷ 1 ∷ []) (any_byte 0) (joined (0 ∷ []) (1 ∷ []) stop funcs)))

pub returns-clause-array_and_struct : goal.returns-clause-array_and_struct
unfolding SpellsMember SpellsGroups SpellsGroup SpellsSubTypes SpellsValType SpellsField SpellsStructType Each Listed digit_count
    is_tag_type is_unshared_function
returns-clause-array_and_struct c =
    let array = joined [] (1 ∷ 0 ∷ 0 ∷ 0 ∷ []) refl (joined (1 ∷ []) (0 ∷ 0 ∷ 0 ∷ []) go (joined [] (0 ∷ 0 ∷ 0 ∷ []) refl
    (joined (0 ∷ []) (0 ∷ 0 ∷ []) (record { digits = refl; read = refl }) (joined (0 ∷ []) (0 ∷ []) (record { digits = refl; read = refl })
    stop)))) in
    let arrays = joined (1 ∷ 0 ∷ 0 ∷ 0 ∷ []) [] (record { root = refl; unshared = refl; form = array }) refl in
    let reference = joined (1 ∷ 0 ∷ []) [] (refl, joined (1 ∷ []) (0 ∷ []) go (record { digits = refl; read = refl })) (refl, refl) in
    let value = joined (5 ∷ []) (1 ∷ 0 ∷ []) (record { place = 5; stands = refl; number = record { digits = refl; read = refl } })
    (record { enabled = refl; form = reference }) in
    let field = joined (2 ∷ 5 ∷ 1 ∷ 0 ∷ []) (1 ∷ []) (joined (2 ∷ []) (5 ∷ 1 ∷ 0 ∷ []) (record { digits = refl; read = refl }) value) go in
    let fields = joined (1 ∷ []) (2 ∷ 5 ∷ 1 ∷ 0 ∷ 1 ∷ []) (record { digits = refl; read = refl })
    (joined (2 ∷ 5 ∷ 1 ∷ 0 ∷ 1 ∷ []) [] field refl) in
    let structure = joined [] (1 ∷ 2 ∷ 1 ∷ 2 ∷ 5 ∷ 1 ∷ 0 ∷ 1 ∷ []) refl (joined (1 ∷ []) (2 ∷ 1 ∷ 2 ∷ 5 ∷ 1 ∷ 0 ∷ 1 ∷ []) go
    (joined [] (2 ∷ 1 ∷ 2 ∷ 5 ∷ 1 ∷ 0 ∷ 1 ∷ []) refl
    (joined (2 ∷ []) (1 ∷ 2 ∷ 5 ∷ 1 ∷ 0 ∷ 1 ∷ []) (record { digits = refl; read = refl }) fields))) in
    let structures = joined (1 ∷ 2 ∷ 1 ∷ 2 ∷ 5 ∷ 1 ∷ 0 ∷ 1 ∷ []) [] (record { root = refl; unshared = refl; form = structure }) refl in
    let second = joined (1 ∷ 1 ∷ []) (1 ∷ 2 ∷ 1 ∷ 2 ∷ 5 ∷ 1 ∷ 0 ∷ 1 ∷ [])
    (joined (1 ∷ []) (1 ∷ []) no_clone (record { digits = refl; read = refl })) structures in
    let first = joined (1 ∷ []) (1 ∷ 0 ∷ 0 ∷ 0 ∷ []) (joined [] (1 ∷ []) refl (record { digits = refl; read = refl })) arrays in
    let more = joined (1 ∷ []) (1 ∷ 1 ∷ 1 ∷ 2 ∷ 1 ∷ 2 ∷ 5 ∷ 1 ∷ 0 ∷ 1 ∷ 0 ∷ []) go (joined (1 ∷ 1 ∷ 1 ∷ 2 ∷ 1 ∷ 2 ∷ 5 ∷ 1 ∷ 0 ∷ 1 ∷ [])
    (0 ∷ []) second stop) in
    let groups = joined (1 ∷ []) (1 ∷ 1 ∷ 0 ∷ 0 ∷ 0 ∷ 1 ∷ 1 ∷ 1 ∷ 1 ∷ 2 ∷ 1 ∷ 2 ∷ 5 ∷ 1 ∷ 0 ∷ 1 ∷ 0 ∷ []) go
    (joined (1 ∷ 1 ∷ 0 ∷ 0 ∷ 0 ∷ []) (1 ∷ 1 ∷ 1 ∷ 1 ∷ 2 ∷ 1 ∷ 2 ∷ 5 ∷ 1 ∷ 0 ∷ 1 ∷ 0 ∷ []) first more) in
    joined (1 ∷ 1 ∷ 1 ∷ 0 ∷ 0 ∷ 0 ∷ 1 ∷ 1 ∷ 1 ∷ 1 ∷ 2 ∷ 1 ∷ 2 ∷ 5 ∷ 1 ∷ 0 ∷ 1 ∷ 0 ∷ []) (0 ∷ 0 ∷ []) groups
    (joined (0 ∷ []) (0 ∷ []) stop (joined (0 ∷ []) [] (any_byte 0) (joined [] [] refl refl)))

pub returns-clause-a_struct_of_a_reference_that_is_not_null : goal.returns-clause-a_struct_of_a_reference_that_is_not_null
unfolding SpellsMember SpellsGroups SpellsGroup SpellsSubTypes SpellsValType SpellsField SpellsStructType Each Listed digit_count
    is_tag_type is_unshared_function
returns-clause-a_struct_of_a_reference_that_is_not_null c =
    let empty = joined [] (1 ∷ 2 ∷ 0 ∷ []) refl
    (joined (1 ∷ []) (2 ∷ 0 ∷ []) go
    (joined [] (2 ∷ 0 ∷ []) refl (joined (2 ∷ []) (0 ∷ []) (record { digits = refl; read = refl })
    (joined (0 ∷ []) [] (record { digits = refl; read = refl }) refl)))) in
    let empties = joined (1 ∷ 2 ∷ 0 ∷ []) [] (record { root = refl; unshared = refl; form = empty }) refl in
    let reference = joined (1 ∷ 0 ∷ []) (1 ∷ []) (refl, joined (1 ∷ []) (0 ∷ []) go (record { digits = refl; read = refl })) go in
    let value = joined (5 ∷ []) (1 ∷ 0 ∷ 1 ∷ []) (record { place = 5; stands = refl; number = record { digits = refl; read = refl } })
    (record { enabled = refl; form = reference }) in
    let field = joined (2 ∷ 5 ∷ 1 ∷ 0 ∷ 1 ∷ []) (0 ∷ []) (joined (2 ∷ []) (5 ∷ 1 ∷ 0 ∷ 1 ∷ []) (record { digits = refl; read = refl })
    value) stop in
    let fields = joined (1 ∷ []) (2 ∷ 5 ∷ 1 ∷ 0 ∷ 1 ∷ 0 ∷ []) (record { digits = refl; read = refl })
    (joined (2 ∷ 5 ∷ 1 ∷ 0 ∷ 1 ∷ 0 ∷ []) [] field refl) in
    let structure = joined [] (1 ∷ 2 ∷ 1 ∷ 2 ∷ 5 ∷ 1 ∷ 0 ∷ 1 ∷ 0 ∷ []) refl (joined (1 ∷ []) (2 ∷ 1 ∷ 2 ∷ 5 ∷ 1 ∷ 0 ∷ 1 ∷ 0 ∷ []) go
    (joined [] (2 ∷ 1 ∷ 2 ∷ 5 ∷ 1 ∷ 0 ∷ 1 ∷ 0 ∷ []) refl
    (joined (2 ∷ []) (1 ∷ 2 ∷ 5 ∷ 1 ∷ 0 ∷ 1 ∷ 0 ∷ []) (record { digits = refl; read = refl }) fields))) in
    let structures = joined (1 ∷ 2 ∷ 1 ∷ 2 ∷ 5 ∷ 1 ∷ 0 ∷ 1 ∷ 0 ∷ []) [] (record { root = refl; unshared = refl; form = structure }) refl in
    let second = joined (1 ∷ 1 ∷ []) (1 ∷ 2 ∷ 1 ∷ 2 ∷ 5 ∷ 1 ∷ 0 ∷ 1 ∷ 0 ∷ [])
    (joined (1 ∷ []) (1 ∷ []) no_clone (record { digits = refl; read = refl })) structures in
    let first = joined (1 ∷ []) (1 ∷ 2 ∷ 0 ∷ []) (joined [] (1 ∷ []) refl (record { digits = refl; read = refl })) empties in
    let more = joined (1 ∷ []) (1 ∷ 1 ∷ 1 ∷ 2 ∷ 1 ∷ 2 ∷ 5 ∷ 1 ∷ 0 ∷ 1 ∷ 0 ∷ 0 ∷ []) go
    (joined (1 ∷ 1 ∷ 1 ∷ 2 ∷ 1 ∷ 2 ∷ 5 ∷ 1 ∷ 0 ∷ 1 ∷ 0 ∷ []) (0 ∷ []) second stop) in
    let groups = joined (1 ∷ []) (1 ∷ 1 ∷ 2 ∷ 0 ∷ 1 ∷ 1 ∷ 1 ∷ 1 ∷ 2 ∷ 1 ∷ 2 ∷ 5 ∷ 1 ∷ 0 ∷ 1 ∷ 0 ∷ 0 ∷ []) go
    (joined (1 ∷ 1 ∷ 2 ∷ 0 ∷ []) (1 ∷ 1 ∷ 1 ∷ 1 ∷ 2 ∷ 1 ∷ 2 ∷ 5 ∷ 1 ∷ 0 ∷ 1 ∷ 0 ∷ 0 ∷ []) first more) in
    joined (1 ∷ 1 ∷ 1 ∷ 2 ∷ 0 ∷ 1 ∷ 1 ∷ 1 ∷ 1 ∷ 2 ∷ 1 ∷ 2 ∷ 5 ∷ 1 ∷ 0 ∷ 1 ∷ 0 ∷ 0 ∷ []) (0 ∷ 0 ∷ []) groups
    (joined (0 ∷ []) (0 ∷ []) stop (joined (0 ∷ []) [] (any_byte 0) (joined [] [] refl refl)))
