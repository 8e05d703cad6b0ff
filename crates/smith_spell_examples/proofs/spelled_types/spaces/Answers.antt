use Rattle.smith_spell_examples.proofs.Common.{[], All-from_recursion, alone, ap, arith, Concrete, default_config, digit_count, false}
use Rattle.smith_spell_examples.proofs.Common.{final, GroupedTypes, GroupsFit, inl, inr, List, Listed, not_null, one_function_type, plain}
use Rattle.smith_spell_examples.proofs.Common.{Ref, refl, rules, space_of, SpellsFuncType, SpellsGroup, SpellsGroups, SpellsNothing}
use Rattle.smith_spell_examples.proofs.Common.{SpellsNumber, SpellsSubTypes, struct_of_bytes, struct_with, subst, SubType, sym, true}
use Rattle.smith_spell_examples.proofs.Common.{with_non_nullable, ◌<◌, ◌∙◌, ◌∷◌, ◌≡◌}
use Rattle.std.proofs.lemmas.List.{append-nil}
use Rattle.std.proofs.lemmas.List.Elements.{All-head, All-nil}
use Rattle.smith_types.specs.Syntax.value_type.AbstractHeapType.TheVariants as heap
use Rattle.smith_types.specs.ExampleTypes.{nullable}
use Rattle.smith_draw_types.specs.Spelling.{ReferBack, RefersTo}
use Rattle.smith_config.specs.ExampleMembers.{bytes_array, struct_of}
use Rattle.smith_config.specs.ExampleMembers.{plain_function}
use Rattle.smith_spell_examples.proofs.GroundedExamples.{grounds_itself, none_grounded}
use Rattle.smith_spell_examples.proofs.SpelledExamples.{joined, go, stop, bool_first, digit_first, without_nothing, opened}
use Rattle.smith_spell_examples.proofs.spelled_types.spaces.Goals as goal

refers_to_itself : ReferBack default_config [] (alone (struct_of 0)) → ⊥
refers_to_itself back = let below : 0 < 0 = (All-head (RefersTo default_config []) (Ref (nullable (Concrete 0))) [] back.0).0 in
    omega (arith, below)

-- a struct without fields, and one that refers to it
struct_back : ReferBack with_non_nullable [] (alone (struct_of_bytes 0))
struct_back = (All-nil (RefersTo with_non_nullable []), tt)

holder_back : ReferBack with_non_nullable (alone (struct_of_bytes 0)) (alone (struct_with (Concrete 0)))
holder_back = (
  All-from_recursion (RefersTo with_non_nullable (alone (struct_of_bytes 0))) (Ref (not_null (Concrete 0)) ∷ [])
      ((omega arith, inr ((grounds_itself (struct_of_bytes 0) false).0 refl)), tt),
  tt,
)

-- if there is no struct, none grounds
without_struct : (types : List SubType) → ReferBack with_non_nullable [] (final (struct_with (plain heap.Any)) ∷ types) → ⊥
without_struct types back = elim (All-head (RefersTo with_non_nullable []) (Ref (not_null (plain heap.Any))) [] back.0).1
    [ inl never ↦ cc | inr grounded ↦ none_grounded false (plain heap.Any) grounded ]

pub returns-clause-back_to_a_struct_that_is_not_null : goal.returns-clause-back_to_a_struct_that_is_not_null
returns-clause-back_to_a_struct_that_is_not_null c = (struct_back.0, holder_back)

pub returns-clause-back_to_no_struct : goal.returns-clause-back_to_no_struct
returns-clause-back_to_no_struct c = λ back.
    elim (All-head (RefersTo with_non_nullable (alone bytes_array)) (Ref (not_null (Concrete 0))) [] back.1.0).1 [
      | inl never ↦ cc
      | inr grounded ↦ let never : false ≡ true = (grounds_itself bytes_array false).1 grounded in cc
    ]

pub returns-clause-to_a_later_struct : goal.returns-clause-to_a_later_struct
returns-clause-to_a_later_struct c = without_struct (alone (struct_of_bytes 0))

pub returns-clause-groups_of_a_struct_that_is_not_null : goal.returns-clause-groups_of_a_struct_that_is_not_null
returns-clause-groups_of_a_struct_that_is_not_null c = (omega arith, omega arith, struct_back, (omega arith, omega arith, holder_back, tt))

pub returns-clause-groups_of_a_struct_without_another : goal.returns-clause-groups_of_a_struct_without_another
returns-clause-groups_of_a_struct_without_another c = λ fit. let (filled, room, back, more) = fit in without_struct [] back

pub returns-clause-to_itself : goal.returns-clause-to_itself
returns-clause-to_itself c = refers_to_itself

pub returns-clause-a_group_that_refers_to_itself : goal.returns-clause-a_group_that_refers_to_itself
returns-clause-a_group_that_refers_to_itself c = λ fit. let (filled, room, back, more) = fit in refers_to_itself back

-- a function without parameters and results, alone in a group
function_spelled : SpellsGroup default_config [] false (alone plain_function) (1 ∷ 1 ∷ 1 ∷ 0 ∷ 0 ∷ [])
unfolding SpellsGroup SpellsSubTypes SpellsFuncType Listed digit_count
function_spelled =
    let lists = joined (0 ∷ []) (0 ∷ []) stop stop in
    let declared = joined [] (1 ∷ 1 ∷ 0 ∷ 0 ∷ []) refl
    (joined (1 ∷ []) (1 ∷ 0 ∷ 0 ∷ []) go
    (joined [] (1 ∷ 0 ∷ 0 ∷ []) refl (joined (1 ∷ []) (0 ∷ 0 ∷ []) (record { digits = refl; read = refl }) lists))) in
    let types = joined (1 ∷ 1 ∷ 0 ∷ 0 ∷ []) [] (record { root = refl; unshared = refl; form = declared }) refl in
    joined (1 ∷ []) (1 ∷ 1 ∷ 0 ∷ 0 ∷ []) (joined [] (1 ∷ []) refl (record { digits = refl; read = refl })) types

pub returns-clause-one_group_more : goal.returns-clause-one_group_more
returns-clause-one_group_more c = record { added = alone plain_function; is_after = refl; back = search rules; spelled = function_spelled }

pub returns-clause-a_space : goal.returns-clause-a_space
unfolding SpellsGroups
returns-clause-a_space c = record {
  parts = one_function_type;
  is_of = refl;
  fit = search rules;
  spelled = joined (1 ∷ []) (1 ∷ 1 ∷ 1 ∷ 0 ∷ 0 ∷ 0 ∷ []) go (joined (1 ∷ 1 ∷ 1 ∷ 0 ∷ 0 ∷ []) (0 ∷ []) function_spelled stop);
}

-- a space of one type comes from one group
one_part : (t : SubType) (parts : List (List SubType)) → space_of ((t ∷ []) ∷ []) ≡ space_of parts → parts ≡ (t ∷ []) ∷ []
one_part t [] same = cc (ap (λ (space : GroupedTypes). space.groups) same)
one_part t (part ∷ []) same = ap (λ (group : List SubType). group ∷ [])
    (sym (ap (λ (space : GroupedTypes). space.types) same ∙ append-nil part))
one_part t (part ∷ other ∷ parts) same = cc (ap (λ (space : GroupedTypes). space.groups) same)

pub returns-clause-one_group_that_refers_to_itself : goal.returns-clause-one_group_that_refers_to_itself
returns-clause-one_group_that_refers_to_itself c = λ spelled.
    let same : alone (struct_of 0) ≡ spelled.added = ap (λ (space : GroupedTypes). space.types) spelled.is_after in
    refers_to_itself (subst (ReferBack default_config []) (sym same) spelled.back)

pub returns-clause-one_group_of_other_bytes : goal.returns-clause-one_group_of_other_bytes
unfolding SpellsGroup digit_count
returns-clause-one_group_of_other_bytes c = λ spelled.
    let same : alone plain_function ≡ spelled.added = ap (λ (space : GroupedTypes). space.types) spelled.is_after in
    let group : SpellsGroup default_config [] false (alone plain_function) (2 ∷ 1 ∷ 1 ∷ 0 ∷ 0 ∷ []) =
    subst (λ (added : List SubType). SpellsGroup default_config [] false added (2 ∷ 1 ∷ 1 ∷ 0 ∷ 0 ∷ [])) (sym same) spelled.spelled in
    cc (digit_first refl (without_nothing (opened SpellsNothing (SpellsNumber 1 0 100) group (λ part is. is)))).0

pub returns-clause-a_space_that_refers_to_itself : goal.returns-clause-a_space_that_refers_to_itself
returns-clause-a_space_that_refers_to_itself c = λ spelled.
    let fit : GroupsFit default_config [] (alone (struct_of 0) ∷ []) =
    subst (GroupsFit default_config []) (one_part (final (struct_of 0)) spelled.parts spelled.is_of) spelled.fit in
    let (filled, room, back, more) = fit in
    refers_to_itself back

pub returns-clause-a_space_of_other_bytes : goal.returns-clause-a_space_of_other_bytes
unfolding SpellsGroups
returns-clause-a_space_of_other_bytes c = λ spelled.
    let groups : SpellsGroups default_config [] false one_function_type (0 ∷ []) =
    subst (λ (parts : List (List SubType)). SpellsGroups default_config [] false parts (0 ∷ []))
    (one_part (final plain_function) spelled.parts spelled.is_of) spelled.spelled in
    cc (bool_first groups).0

pub returns-clause-a_space_without_groups : goal.returns-clause-a_space_without_groups
returns-clause-a_space_without_groups c = λ spelled. of spelled.parts (ap (λ space. space.types) spelled.is_of)
    (ap (λ space. space.groups) spelled.is_of)
  where
    of : (parts : List (List SubType)) → alone plain_function ≡ (space_of parts).types → [] ≡ (space_of parts).groups → ⊥
    of [] types groups = cc types
    of (part ∷ parts) types groups = cc groups
