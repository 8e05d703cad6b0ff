use Rattle.smith_binary_law.proofs.Common.{[], arith, offset_of, refl, ℕ, ◌<◌, ◌∷◌}
use Rattle.smith_types.specs.Syntax.segments.DataSegmentKind.TheVariants as data_kind
use Rattle.smith_binary_sections.specs.Data.{IsDataIn, data_of, named_memory}
use Rattle.smith_binary_law.proofs.CheckLemmas.{both}
use Rattle.smith_binary_law.specs.ExampleSegments.{a_byte, start}
use Rattle.smith_binary_law.proofs.SpelledExamples.{index, one_byte, other_number, start_spelled}
use Rattle.smith_binary_law.proofs.examples.forms.data_segments.Goals as goal

by_index : (memory : ℕ) → memory < 128 → IsDataIn named_memory (data_of (a_byte (data_kind.Active memory start)))
    (0x02 ∷ memory ∷ 0x41 ∷ 0x00 ∷ 0x0B ∷ 0x01 ∷ 0x2A ∷ [])
by_index memory low =
    both (0x02 ∷ []) (memory ∷ 0x41 ∷ 0x00 ∷ 0x0B ∷ 0x01 ∷ 0x2A ∷ []) (index 2 (omega arith)) (
      memory,
      offset_of start,
      refl,
      both (memory ∷ []) (0x41 ∷ 0x00 ∷ 0x0B ∷ 0x01 ∷ 0x2A ∷ []) (index memory low)
          (both (0x41 ∷ 0x00 ∷ 0x0B ∷ []) (0x01 ∷ 0x2A ∷ []) start_spelled one_byte),
    )

pub returns-clause-first_memory : goal.returns-clause-first_memory
returns-clause-first_memory c =
    both (0x00 ∷ []) (0x41 ∷ 0x00 ∷ 0x0B ∷ 0x01 ∷ 0x2A ∷ []) (index 0 (omega arith))
    (offset_of start, refl, both (0x41 ∷ 0x00 ∷ 0x0B ∷ []) (0x01 ∷ 0x2A ∷ []) start_spelled one_byte)

pub returns-clause-second_memory : goal.returns-clause-second_memory
returns-clause-second_memory c = by_index 1 (omega arith)

pub returns-clause-passive : goal.returns-clause-passive
returns-clause-passive c = both (0x01 ∷ []) (0x01 ∷ 0x2A ∷ []) (index 1 (omega arith)) (refl, one_byte)

pub returns-clause-index_in_the_grammar : goal.returns-clause-index_in_the_grammar
returns-clause-index_in_the_grammar c = record { form = named_memory; spelled = by_index 0 (omega arith) }

pub returns-clause-index_as_written : goal.returns-clause-index_as_written
returns-clause-index_as_written c = λ h. other_number 0 2 _ _ (omega arith) (λ e. omega (arith, e)) h
