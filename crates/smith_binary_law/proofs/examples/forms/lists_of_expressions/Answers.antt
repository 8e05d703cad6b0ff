use Rattle.smith_binary_law.proofs.Common.{[], arith, offset_of, plain, refl, ◌∷◌}
use Rattle.smith_types.specs.ExampleTypes.{nullable}
use Rattle.smith_types.specs.Syntax.value_type.AbstractHeapType.TheVariants as heap
use Rattle.smith_binary_sections.specs.Instructions.{IsExpression}
use Rattle.smith_binary_sections.specs.Types.{IsRefType}
use Rattle.smith_binary_law.proofs.CheckLemmas.{both}
use Rattle.smith_binary_law.specs.ExampleSegments.{no_function, start}
use Rattle.smith_binary_law.proofs.SpelledExamples.{index, more_items, no_item, null_spelled, other_number, start_spelled}
use Rattle.smith_binary_law.proofs.examples.forms.lists_of_expressions.Goals as goal

pub returns-clause-first_table : goal.returns-clause-first_table
returns-clause-first_table c =
    both (0x04 ∷ []) (0x41 ∷ 0x00 ∷ 0x0B ∷ 0x01 ∷ 0xD0 ∷ 0x70 ∷ 0x0B ∷ []) (index 4 (omega arith)) (
      offset_of start,
      no_function ∷ [],
      refl,
      both (0x41 ∷ 0x00 ∷ 0x0B ∷ []) (0x01 ∷ 0xD0 ∷ 0x70 ∷ 0x0B ∷ []) start_spelled
          (both (0x01 ∷ []) (0xD0 ∷ 0x70 ∷ 0x0B ∷ []) (index 1 (omega arith))
          (more_items IsExpression no_function [] (0xD0 ∷ 0x70 ∷ 0x0B ∷ []) [] null_spelled (no_item IsExpression))),
    )

pub returns-clause-of_another_type : goal.returns-clause-of_another_type
returns-clause-of_another_type c =
    both (0x06 ∷ []) (0x00 ∷ 0x41 ∷ 0x00 ∷ 0x0B ∷ 0x6F ∷ 0x00 ∷ []) (index 6 (omega arith)) (
      0,
      offset_of start,
      nullable (plain heap.Extern),
      [],
      refl,
      both (0x00 ∷ []) (0x41 ∷ 0x00 ∷ 0x0B ∷ 0x6F ∷ 0x00 ∷ []) (index 0 (omega arith))
          (both (0x41 ∷ 0x00 ∷ 0x0B ∷ []) (0x6F ∷ 0x00 ∷ []) start_spelled (both (0x6F ∷ []) (0x00 ∷ []) (IsRefType.short refl refl)
          (both (0x00 ∷ []) [] (index 0 (omega arith)) (no_item IsExpression)))),
    )

pub returns-clause-without_their_type : goal.returns-clause-without_their_type
returns-clause-without_their_type c = λ h. other_number 6 4 _ _ (omega arith) (λ e. omega (arith, e)) h
