use Rattle.smith_binary_law.proofs.Common.{[], ap, arith, IsUnsigned, List, refl, ℕ, ◌++◌, ◌∙◌, ◌∷◌, ◌≡◌}
use Rattle.smith_binary.proofs.UnambiguousLemmas.{same_head}
use Rattle.smith_binary_law.proofs.CheckLemmas.{both}
use Rattle.smith_binary_law.proofs.SpelledExamples.{prefixed}
use Rattle.smith_binary_law.proofs.examples.instructions.operators.Goals as goal

two_bytes : IsUnsigned 32 3 (0x83 ∷ 0x00 ∷ [])
unfolding IsUnsigned
two_bytes = (0, (refl, omega arith, omega arith), omega arith, omega arith, omega arith, omega arith)

above_127 : IsUnsigned 32 131 (0x83 ∷ 0x01 ∷ [])
unfolding IsUnsigned
above_127 = (1, (refl, omega arith, omega arith), omega arith, omega arith, omega arith, omega arith)

pub returns-clause-difference_as_sum : goal.returns-clause-difference_as_sum
returns-clause-difference_as_sum c = λ h. let heads : 0x6B ≡ 0x6A = same_head h in omega (arith, heads)

pub returns-clause-saturating : goal.returns-clause-saturating
returns-clause-saturating c = prefixed 0xFC 3 (omega arith)

pub returns-clause-number_in_two_bytes : goal.returns-clause-number_in_two_bytes
returns-clause-number_in_two_bytes c = both (0xFC ∷ []) (0x83 ∷ 0x00 ∷ []) refl two_bytes

pub returns-clause-without_its_prefix : goal.returns-clause-without_its_prefix
returns-clause-without_its_prefix c =
    λ h. let heads : 0x03 ≡ 0xFC = same_head (h.whole ∙ ap (λ (first : List ℕ). first ++ h.second) h.is_first) in omega (arith, heads)

pub returns-clause-number_above_127 : goal.returns-clause-number_above_127
returns-clause-number_above_127 c = both (0xFD ∷ []) (0x83 ∷ 0x01 ∷ []) refl above_127
