use Rattle.smith_spell_examples.proofs.Common.{arith, false, inl, inr, plain, refl, struct_of_bytes, struct_with, true, ◌≡◌}
use Rattle.smith_types.specs.Syntax.value_type.AbstractHeapType.TheVariants as heap
use Rattle.smith_config.specs.ExampleMembers.{bytes_array}
use Rattle.smith_spell_examples.proofs.GroundedExamples.{grounds_itself, grounds_above}
use Rattle.smith_spell_examples.proofs.family.nullability.Goals as goal

pub returns-clause-a_struct_that_is_not_null : goal.returns-clause-a_struct_that_is_not_null
returns-clause-a_struct_that_is_not_null c = (refl, (refl, omega arith), inr (refl, (grounds_itself (struct_of_bytes 1) false).0 refl))

pub returns-clause-a_struct_below_any : goal.returns-clause-a_struct_below_any
returns-clause-a_struct_below_any c =
    (refl, (refl, (3, omega arith, refl)), inr (refl, (grounds_above (struct_of_bytes 1) false heap.Any).0 refl))

pub returns-clause-an_exact_struct : goal.returns-clause-an_exact_struct
returns-clause-an_exact_struct c = (refl, (refl, omega arith), inr (refl, (grounds_itself (struct_of_bytes 1) true).0 refl))

pub returns-clause-a_struct_where_references_are_nullable : goal.returns-clause-a_struct_where_references_are_nullable
returns-clause-a_struct_where_references_are_nullable c = λ member. elim member.2 [ inl never ↦ cc | inr (on, grounded) ↦ cc ]

pub returns-clause-no_struct_below_any : goal.returns-clause-no_struct_below_any
returns-clause-no_struct_below_any c = λ member. elim member.2 [
  | inl never ↦ cc
  | inr (on, grounded) ↦ let never : false
      ≡ true = (grounds_above bytes_array false heap.Any).1 grounded in cc
]

pub returns-clause-an_array_that_is_not_null : goal.returns-clause-an_array_that_is_not_null
returns-clause-an_array_that_is_not_null c = λ member. elim member.2 [
  | inl never ↦ cc
  | inr (on, grounded) ↦ let never : false
      ≡ true = (grounds_itself bytes_array false).1 grounded in cc
]

pub returns-clause-no_struct_below_a_function : goal.returns-clause-no_struct_below_a_function
returns-clause-no_struct_below_a_function c = λ member. elim member.2 [
  | inl never ↦ cc
  | inr (on, grounded) ↦ let never : false
      ≡ true = (grounds_above (struct_of_bytes 1) false heap.Func).1 grounded in cc
]

pub returns-clause-a_struct_without_defaults : goal.returns-clause-a_struct_without_defaults
returns-clause-a_struct_without_defaults c = λ member.
    elim member.2 [
      | inl never ↦ cc
      | inr (on, grounded) ↦ let never : false ≡ true = (grounds_itself (struct_with (plain heap.Any)) false).1
          grounded in cc
    ]
