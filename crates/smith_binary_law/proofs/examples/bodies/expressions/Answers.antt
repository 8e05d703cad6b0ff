use Rattle.smith_binary_law.proofs.Common.{[], ap, arith, Each, IsInstr, length, length-append, refl, ◌++◌, ◌∷◌, ◌≡◌}
use Rattle.smith_binary_law.proofs.CheckLemmas.{both}
use Rattle.smith_instr.specs.declared.control.BlockType.TheVariants as block
use Rattle.smith_instr.specs.declared.instr.Instr.TheVariants as instr
use Rattle.smith_binary_law.proofs.SpelledExamples.{no_item, more_items}
use Rattle.smith_binary_law.proofs.examples.bodies.expressions.Goals as goal

pub returns-clause-empty : goal.returns-clause-empty
returns-clause-empty c = both [] (0x0B ∷ []) (no_item IsInstr) refl

pub returns-clause-without_its_end : goal.returns-clause-without_its_end
unfolding Each
returns-clause-without_its_end c =
    λ h.
    let whole : 1 ≡ length (h.first ++ h.second) = ap length h.whole in
    let end : length h.second ≡ 1 = ap length h.is_second in
    let front : length h.first ≡ length (h.is_first.first ++ h.is_first.second) = ap length h.is_first.whole in
    let nop : length h.is_first.first ≡ 1 = ap length h.is_first.is_first in
    omega (arith, whole, end, front, nop, length-append h.first h.second, length-append h.is_first.first h.is_first.second)

pub returns-clause-block : goal.returns-clause-block
returns-clause-block c =
    both (0x02 ∷ 0x40 ∷ 0x0B ∷ []) (0x0B ∷ [])
    (more_items IsInstr (instr.Block block.Empty) (instr.End ∷ []) (0x02 ∷ 0x40 ∷ []) (0x0B ∷ []) (both (0x02 ∷ []) (0x40 ∷ []) refl refl)
    (more_items IsInstr instr.End [] (0x0B ∷ []) [] refl (no_item IsInstr)))
    refl
