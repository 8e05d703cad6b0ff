use Rattle.smith_binary_law.proofs.Common.{[], arith, I32, IsInstr, IsRun, List, refl, ValType, ℕ, ◌<◌, ◌∷◌}
use Rattle.smith_binary_law.proofs.CheckLemmas.{both}
use Rattle.smith_instr.specs.declared.instr.Instr.TheVariants as instr
use Rattle.smith_binary_instr.specs.Instructions.{IsExpr, IsExprWritten, IsInstrWritten}
use Rattle.smith_binary_law.proofs.SpelledExamples.{index, no_item, more_items}
use Rattle.smith_binary_law.proofs.examples.bodies.bodies.Goals as goal

-- a run of a number of locals
run_spelled : (count : ℕ) → count < 128 → IsRun (count, I32) (count ∷ 0x7F ∷ [])
run_spelled count low = both (count ∷ []) (0x7F ∷ []) (index count low) refl

-- a local as a run of its own
abbrev alone : ValType → List ℕ → Type 0
alone local = IsRun (1, local)

nop_spelled : IsExpr (instr.Nop ∷ []) (0x01 ∷ 0x0B ∷ [])
nop_spelled = both (0x01 ∷ []) (0x0B ∷ []) (more_items IsInstr instr.Nop [] (0x01 ∷ []) [] refl (no_item IsInstr)) refl

nop_written : IsExprWritten (instr.Nop ∷ []) (0x01 ∷ 0x0B ∷ [])
nop_written = both (0x01 ∷ []) (0x0B ∷ []) (more_items IsInstrWritten instr.Nop [] (0x01 ∷ []) [] refl (no_item IsInstrWritten)) refl

pub returns-clause-one_local : goal.returns-clause-one_local
returns-clause-one_local c = record {
  content = 0x01 ∷ 0x01 ∷ 0x7F ∷ 0x01 ∷ 0x0B ∷ [];
  is_content = both (0x01 ∷ 0x01 ∷ 0x7F ∷ []) (0x01 ∷ 0x0B ∷ [])
      (record {
        runs = (1, I32) ∷ [];
        cut = refl;
        few = omega arith;
        form = both (0x01 ∷ []) (0x01 ∷ 0x7F ∷ []) (index 1 (omega arith)) (more_items IsRun (1, I32) [] (0x01 ∷ 0x7F ∷ []) []
            (run_spelled 1 (omega arith)) (no_item IsRun));
      })
      nop_spelled;
  form = both (0x05 ∷ []) (0x01 ∷ 0x01 ∷ 0x7F ∷ 0x01 ∷ 0x0B ∷ []) (index 5 (omega arith)) refl;
}

pub returns-clause-two_locals_in_a_run : goal.returns-clause-two_locals_in_a_run
returns-clause-two_locals_in_a_run c = record {
  content = 0x01 ∷ 0x02 ∷ 0x7F ∷ 0x01 ∷ 0x0B ∷ [];
  is_content = both (0x01 ∷ 0x02 ∷ 0x7F ∷ []) (0x01 ∷ 0x0B ∷ [])
      (record {
        runs = (2, I32) ∷ [];
        cut = refl;
        few = omega arith;
        form = both (0x01 ∷ []) (0x02 ∷ 0x7F ∷ []) (index 1 (omega arith)) (more_items IsRun (2, I32) [] (0x02 ∷ 0x7F ∷ []) []
            (run_spelled 2 (omega arith)) (no_item IsRun));
      })
      nop_spelled;
  form = both (0x05 ∷ []) (0x01 ∷ 0x02 ∷ 0x7F ∷ 0x01 ∷ 0x0B ∷ []) (index 5 (omega arith)) refl;
}

pub returns-clause-two_locals_as_written : goal.returns-clause-two_locals_as_written
returns-clause-two_locals_as_written c = record {
  content = 0x02 ∷ 0x01 ∷ 0x7F ∷ 0x01 ∷ 0x7F ∷ 0x01 ∷ 0x0B ∷ [];
  is_content = both (0x02 ∷ 0x01 ∷ 0x7F ∷ 0x01 ∷ 0x7F ∷ []) (0x01 ∷ 0x0B ∷ [])
      (both (0x02 ∷ []) (0x01 ∷ 0x7F ∷ 0x01 ∷ 0x7F ∷ []) (index 2 (omega arith))
      (more_items alone I32 (I32 ∷ []) (0x01 ∷ 0x7F ∷ []) (0x01 ∷ 0x7F ∷ []) (run_spelled 1 (omega arith))
      (more_items alone I32 [] (0x01 ∷ 0x7F ∷ []) [] (run_spelled 1 (omega arith)) (no_item alone))))
      nop_written;
  form = both (0x07 ∷ []) (0x02 ∷ 0x01 ∷ 0x7F ∷ 0x01 ∷ 0x7F ∷ 0x01 ∷ 0x0B ∷ []) (index 7 (omega arith)) refl;
}
