use Rattle.smith_binary_law.proofs.Common.{[], arith, None, offset_of, refl, Some, ℕ, ◌<◌, ◌∷◌}
use Rattle.smith_types.specs.Syntax.segments.ElementKind.TheVariants.{Active}
use Rattle.smith_binary_sections.specs.Elements.{IsElemIn, IsKindFuncs, elem_of, first_funcs, table_funcs}
use Rattle.smith_binary_law.proofs.CheckLemmas.{both}
use Rattle.smith_binary_law.specs.ExampleSegments.{a_function, start}
use Rattle.smith_binary_law.proofs.SpelledExamples.{index, one_function, other_number, start_spelled}
use Rattle.smith_binary_law.proofs.examples.forms.lists_of_functions.Goals as goal

first_form : IsElemIn first_funcs (elem_of (a_function (Active None start))) (0x00 ∷ 0x41 ∷ 0x00 ∷ 0x0B ∷ 0x01 ∷ 0x00 ∷ [])
first_form =
    both (0x00 ∷ []) (0x41 ∷ 0x00 ∷ 0x0B ∷ 0x01 ∷ 0x00 ∷ []) (index 0 (omega arith))
    (offset_of start, 0 ∷ [], refl, both (0x41 ∷ 0x00 ∷ 0x0B ∷ []) (0x01 ∷ 0x00 ∷ []) start_spelled one_function)

-- a list after the byte of its kind
listed : IsKindFuncs (0 ∷ []) (0x00 ∷ 0x01 ∷ 0x00 ∷ [])
listed = both (0x00 ∷ []) (0x01 ∷ 0x00 ∷ []) refl one_function

by_index : (table : ℕ) → table < 128 → IsElemIn table_funcs (elem_of (a_function (Active (Some table) start)))
    (0x02 ∷ table ∷ 0x41 ∷ 0x00 ∷ 0x0B ∷ 0x00 ∷ 0x01 ∷ 0x00 ∷ [])
by_index table low =
    both (0x02 ∷ []) (table ∷ 0x41 ∷ 0x00 ∷ 0x0B ∷ 0x00 ∷ 0x01 ∷ 0x00 ∷ []) (index 2 (omega arith)) (
      table,
      offset_of start,
      0 ∷ [],
      refl,
      both (table ∷ []) (0x41 ∷ 0x00 ∷ 0x0B ∷ 0x00 ∷ 0x01 ∷ 0x00 ∷ []) (index table low)
          (both (0x41 ∷ 0x00 ∷ 0x0B ∷ []) (0x00 ∷ 0x01 ∷ 0x00 ∷ []) start_spelled listed),
    )

pub returns-clause-first_table : goal.returns-clause-first_table
returns-clause-first_table c = first_form

pub returns-clause-first_table_by_its_index : goal.returns-clause-first_table_by_its_index
returns-clause-first_table_by_its_index c = first_form

pub returns-clause-second_table : goal.returns-clause-second_table
returns-clause-second_table c = by_index 1 (omega arith)

pub returns-clause-passive : goal.returns-clause-passive
returns-clause-passive c = both (0x01 ∷ []) (0x00 ∷ 0x01 ∷ 0x00 ∷ []) (index 1 (omega arith)) (0 ∷ [], refl, listed)

pub returns-clause-declared : goal.returns-clause-declared
returns-clause-declared c = both (0x03 ∷ []) (0x00 ∷ 0x01 ∷ 0x00 ∷ []) (index 3 (omega arith)) (0 ∷ [], refl, listed)

pub returns-clause-index_in_the_grammar : goal.returns-clause-index_in_the_grammar
returns-clause-index_in_the_grammar c = record { form = table_funcs; spelled = by_index 0 (omega arith) }

pub returns-clause-index_as_written : goal.returns-clause-index_as_written
returns-clause-index_as_written c = λ h. other_number 0 2 _ _ (omega arith) (λ e. omega (arith, e)) h

pub returns-clause-as_expressions : goal.returns-clause-as_expressions
returns-clause-as_expressions c = λ h. other_number 0 4 _ _ (omega arith) (λ e. omega (arith, e)) h
