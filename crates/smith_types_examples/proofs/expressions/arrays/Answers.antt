use Rattle.smith_types_examples.proofs.Common.{refl, I32, Ref, Val, Array, IsArrayAt, final_type, constant, variable, plain, not_null}
use Rattle.smith_types_examples.proofs.Common.{context_types}
use Rattle.smith_types.specs.Syntax.value_type.AbstractHeapType.TheVariants as heap
use Rattle.smith_types_examples.proofs.expressions.arrays.Goals as goal

numbers_at : IsArrayAt context_types 2 (variable (Val I32))
numbers_at = (final_type (Array (record { 0 = variable (Val I32) })), refl, refl)

functions_at : IsArrayAt context_types 4 (constant (Val (Ref (not_null (plain heap.Func)))))
functions_at = (final_type (Array (record { 0 = constant (Val (Ref (not_null (plain heap.Func)))) })), refl, refl)

pub returns-clause-of_an_element_and_a_length : goal.returns-clause-of_an_element_and_a_length
returns-clause-of_an_element_and_a_length c = (constant (Val (Ref (not_null (plain heap.Func)))), functions_at, refl, refl)

pub returns-clause-of_defaults : goal.returns-clause-of_defaults
returns-clause-of_defaults c = (variable (Val I32), numbers_at, tt, refl, refl)

pub returns-clause-of_two : goal.returns-clause-of_two
returns-clause-of_two c = (variable (Val I32), numbers_at, refl, refl)

pub returns-clause-of_none : goal.returns-clause-of_none
returns-clause-of_none c = (constant (Val (Ref (not_null (plain heap.Func)))), functions_at, refl, refl)
