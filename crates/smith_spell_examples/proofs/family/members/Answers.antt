use Rattle.smith_spell_examples.proofs.Common.{[], All-from_recursion, alone, arith, Concrete, default_config, false, final, I32, inl, inr}
use Rattle.smith_spell_examples.proofs.Common.{not_null, plain, Ref, refl, rules, struct_of_bytes, struct_with, Val, with_non_nullable, ◌∷◌}
use Rattle.std.proofs.Common.{take}
use Rattle.std.proofs.lemmas.List.Elements.{All-head}
use Rattle.smith_types.specs.Syntax.value_type.AbstractHeapType.TheVariants as heap
use Rattle.smith_types.specs.ExampleTypes.{constant}
use Rattle.smith_types.specs.Entities.{IsFuncTypeIndex}
use Rattle.smith_spell.specs.Family.{IsMemberType, IsMemberField}
use Rattle.smith_config.specs.ExampleMembers.{field_of, struct_of, taking_a_number}
use Rattle.smith_config.specs.ExampleMembers.{one_of_each_without_gc}
use Rattle.smith_types.proofs.EachPlaceLemmas.{each_place}
use Rattle.smith_spell_examples.proofs.SpellExamples.{function_in_family, holder_in_family}
use Rattle.smith_spell_examples.proofs.GroundedExamples.{none_grounded}
use Rattle.smith_spell_examples.proofs.family.members.Goals as goal

taking : IsMemberType one_of_each_without_gc [] (final taking_a_number)
taking = search rules

pub returns-clause-a_function : goal.returns-clause-a_function
returns-clause-a_function c = function_in_family

pub returns-clause-full_without_gc : goal.returns-clause-full_without_gc
returns-clause-full_without_gc c = record {
  filled = search rules;
  single = search rules;
  few_types = omega arith;
  each_type = each_place (λ index t. IsMemberType one_of_each_without_gc (take index (alone taking_a_number)) t) (alone taking_a_number)
      (taking, tt);
  few_funcs = omega arith;
  each_func = All-from_recursion (IsFuncTypeIndex (final taking_a_number ∷ [])) (0 ∷ [])
      ((record { params = I32 ∷ []; results = [] }, (final taking_a_number, refl, refl)), tt);
}

pub returns-clause-a_type_that_refers_to_itself : goal.returns-clause-a_type_that_refers_to_itself
returns-clause-a_type_that_refers_to_itself c = λ family.
    let (gc, few, fields) = (family.each_type 0 (final (struct_of 0)) refl).inner in
    let (references, (enabled, below), nullable) = All-head (IsMemberField default_config []) (field_of 0) [] fields in
    omega (arith, below)

pub returns-clause-a_type_that_refers_forward : goal.returns-clause-a_type_that_refers_forward
returns-clause-a_type_that_refers_forward c = λ family.
    let (gc, few, fields) = (family.each_type 0 (final (struct_of 1)) refl).inner in
    let (references, (enabled, below), nullable) = All-head (IsMemberField default_config []) (field_of 1) [] fields in
    omega (arith, below)

pub returns-clause-a_type_of_a_later_group : goal.returns-clause-a_type_of_a_later_group
returns-clause-a_type_of_a_later_group c = λ family.
    let (gc, few, fields) = (family.each_type 0 (final (struct_of 1)) refl).inner in
    let (references, (enabled, below), nullable) = All-head (IsMemberField default_config []) (field_of 1) [] fields in
    omega (arith, below)

pub returns-clause-a_struct_of_a_reference_that_is_not_null : goal.returns-clause-a_struct_of_a_reference_that_is_not_null
returns-clause-a_struct_of_a_reference_that_is_not_null c = holder_in_family

pub returns-clause-where_references_are_nullable : goal.returns-clause-where_references_are_nullable
returns-clause-where_references_are_nullable c = λ family.
    let (gc, few, fields) = (family.each_type 1 (final (struct_with (Concrete 0))) refl).inner in
    let (references, stands, granted) = All-head (IsMemberField default_config (alone (struct_of_bytes 0)))
    (constant (Val (Ref (not_null (Concrete 0))))) [] fields in
    elim granted [ inl never ↦ cc | inr (on, grounded) ↦ cc ]

pub returns-clause-a_struct_of_a_later_group : goal.returns-clause-a_struct_of_a_later_group
returns-clause-a_struct_of_a_later_group c = λ family.
    let (gc, few, fields) = (family.each_type 0 (final (struct_with (plain heap.Any))) refl).inner in
    let (references, stands, granted) = All-head (IsMemberField with_non_nullable []) (constant (Val (Ref (not_null (plain heap.Any))))) []
    fields in
    elim granted [ inl never ↦ cc | inr (on, grounded) ↦ none_grounded false (plain heap.Any) grounded ]
