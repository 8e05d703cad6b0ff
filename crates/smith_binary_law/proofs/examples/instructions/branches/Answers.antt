use Rattle.smith_binary_law.proofs.Common.{[], ap, arith, IsInstr, IsList, refl, ℕ, ◌<◌, ◌∷◌, ◌≡◌}
use Rattle.smith_binary_law.proofs.CheckLemmas.{both}
use Rattle.smith_binary_sections.specs.Instructions.{IsIndex}
use Rattle.smith_instr.specs.declared.instr.Instr.TheVariants as instr
use Rattle.smith_binary_law.proofs.InstructionLemmas.{instr_whole}
use Rattle.smith_binary_law.proofs.SpelledExamples.{small, index, prefixed, no_item, more_items, table_of}
use Rattle.smith_binary_law.proofs.examples.instructions.branches.Goals as goal

labels_spelled : IsList IsIndex (1 ∷ 0 ∷ []) (0x02 ∷ 0x01 ∷ 0x00 ∷ [])
labels_spelled =
    both (0x02 ∷ []) (0x01 ∷ 0x00 ∷ []) (index 2 (omega arith))
    (more_items IsIndex 1 (0 ∷ []) (0x01 ∷ []) (0x00 ∷ []) (index 1 (omega arith))
    (more_items IsIndex 0 [] (0x00 ∷ []) [] (index 0 (omega arith)) (no_item IsIndex)))

called : (table ty : ℕ) → table < 128 → ty < 128 → IsInstr (instr.CallIndirect table ty) (0x11 ∷ ty ∷ table ∷ [])
called table ty low small = both (0x11 ∷ []) (ty ∷ table ∷ []) refl (both (ty ∷ []) (table ∷ []) (index ty small) (index table low))

pub returns-clause-labels : goal.returns-clause-labels
returns-clause-labels c = both (0x0E ∷ []) (0x02 ∷ 0x01 ∷ 0x00 ∷ 0x02 ∷ []) refl (both (0x02 ∷ 0x01 ∷ 0x00 ∷ []) (0x02 ∷ []) labels_spelled
    (index 2 (omega arith)))

pub returns-clause-indirect : goal.returns-clause-indirect
returns-clause-indirect c = called 1 3 (omega arith) (omega arith)

pub returns-clause-table_first : goal.returns-clause-table_first
returns-clause-table_first c =
    λ h.
    let tables : 1 ≡ 3 = ap table_of (instr_whole.one (instr.CallIndirect 1 3) (instr.CallIndirect 3 1) (0x11 ∷ 0x01 ∷ 0x03 ∷ []) h
    (called 3 1 (omega arith) (omega arith))) in
    omega (arith, tables)

pub returns-clause-on_cast : goal.returns-clause-on_cast
returns-clause-on_cast c =
    both (0xFB ∷ 0x18 ∷ []) (0x01 ∷ 0x07 ∷ 0x6E ∷ 0x6C ∷ []) (prefixed 0xFB 24 (omega arith))
    (both (0x01 ∷ []) (0x07 ∷ 0x6E ∷ 0x6C ∷ []) refl (both (0x07 ∷ []) (0x6E ∷ 0x6C ∷ []) (index 7 (omega arith))
    (both (0x6E ∷ []) (0x6C ∷ []) refl refl)))
