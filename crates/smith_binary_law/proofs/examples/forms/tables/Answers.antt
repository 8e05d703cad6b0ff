use Rattle.smith_binary_law.proofs.Common.{[], arith, funcref, None, refl, table, ◌∷◌, ◌≡◌}
use Rattle.smith_binary_sections.specs.Definitions.{IsInitialisedTable, IsTable}
use Rattle.smith_binary_sections.specs.Entities.{IsTableType}
use Rattle.smith_binary_sections.specs.Types.{IsRefType}
use Rattle.smith_binary_law.proofs.CheckLemmas.{both}
use Rattle.smith_binary_law.specs.ExampleSegments.{no_function}
use Rattle.smith_binary_law.proofs.SpelledExamples.{small, null_spelled}
use Rattle.smith_binary_law.proofs.examples.forms.tables.Goals as goal

table_spelled : IsTableType (table funcref 1 None) (0x70 ∷ 0x00 ∷ 0x01 ∷ [])
table_spelled = both (0x70 ∷ []) (0x00 ∷ 0x01 ∷ []) (IsRefType.short refl refl)
    (both (0x00 ∷ []) (0x01 ∷ []) refl (both (0x01 ∷ []) [] (small 64 1 (omega arith) (omega arith)) refl))

initialised_spelled : IsInitialisedTable (table funcref 1 None) no_function (0x40 ∷ 0x00 ∷ 0x70 ∷ 0x00 ∷ 0x01 ∷ 0xD0 ∷ 0x70 ∷ 0x0B ∷ [])
initialised_spelled = both (0x40 ∷ 0x00 ∷ []) (0x70 ∷ 0x00 ∷ 0x01 ∷ 0xD0 ∷ 0x70 ∷ 0x0B ∷ []) refl
    (both (0x70 ∷ 0x00 ∷ 0x01 ∷ []) (0xD0 ∷ 0x70 ∷ 0x0B ∷ []) table_spelled null_spelled)

pub returns-clause-without_an_initialiser : goal.returns-clause-without_an_initialiser
returns-clause-without_an_initialiser c = table_spelled

pub returns-clause-with_an_initialiser : goal.returns-clause-with_an_initialiser
returns-clause-with_an_initialiser c = initialised_spelled

pub returns-clause-null_in_the_grammar : goal.returns-clause-null_in_the_grammar
returns-clause-null_in_the_grammar c = IsTable.initialised initialised_spelled

pub returns-clause-null_as_written : goal.returns-clause-null_as_written
returns-clause-null_as_written c = λ h. elim h.is_first [
  | IsRefType.full both ↦ let first : both.first ≡ 0x63 ∷ [] = both.is_first in let whole = both.whole in let all = h.whole in absurd cc
  | IsRefType.short nullable alone ↦ let first : h.first ≡ 0x70 ∷ [] = alone in let all = h.whole in absurd cc
]
