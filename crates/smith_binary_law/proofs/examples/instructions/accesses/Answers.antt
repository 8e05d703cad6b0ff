use Rattle.smith_binary_law.proofs.Common.{[], ap, arith, IsUnsigned, Joined, List, refl, subst, ℕ, ◌++◌, ◌<◌, ◌∙◌, ◌∷◌, ◌≡◌}
use Rattle.smith_binary_law.proofs.CheckLemmas.{both}
use Rattle.smith_binary.specs.Pieces.{IsByte}
use Rattle.smith_instr.specs.declared.memory.MemArg.{MemArg}
use Rattle.smith_binary_instr.specs.Memory.{IsMemArg}
use Rattle.smith_binary_law.proofs.InstructionLemmas.{instr_whole}
use Rattle.smith_binary_law.specs.ExampleInstructions.{load_word}
use Rattle.smith_binary_law.proofs.SpelledExamples.{small, index, loaded, loaded_as_written, other_number, align_of}
use Rattle.smith_binary_law.proofs.examples.instructions.accesses.Goals as goal

place : (memory : ℕ) → memory < 128 → Joined (IsUnsigned 32 0x42) (Joined (IsUnsigned 32 memory) (IsUnsigned 64 5))
    (0x42 ∷ memory ∷ 0x05 ∷ [])
place memory low = both (0x42 ∷ []) (memory ∷ 0x05 ∷ []) (index 0x42 (omega arith)) (both (memory ∷ []) (0x05 ∷ []) (index memory low)
    (small 64 5 (omega arith) (omega arith)))

named : (memory : ℕ) → memory < 128 → IsMemArg (record { align = 2; offset = 5; memory = memory }) (0x42 ∷ memory ∷ 0x05 ∷ [])
named memory low = IsMemArg.named_memory (omega arith) (place memory low)

too_wide : (at : MemArg) (piece : List ℕ) → at.align ≡ 64 → IsMemArg at piece → ⊥
too_wide at piece wide (IsMemArg.first_memory m a h) = omega (arith, a, wide)
too_wide at piece wide (IsMemArg.named_memory a h) = omega (arith, a, wide)

-- the bytes after an opcode
after_opcode : (opcode : ℕ) (first second piece : List ℕ) → IsByte opcode first → opcode ∷ piece ≡ first ++ second → second ≡ piece
after_opcode opcode first second piece is whole = let same : opcode ∷ piece ≡ opcode ∷ second =
    whole ∙ ap (λ (bytes : List ℕ). bytes ++ second) is in cc

pub returns-clause-first_memory : goal.returns-clause-first_memory
returns-clause-first_memory c = loaded 2 5 (omega arith) (omega arith)

pub returns-clause-first_memory_by_its_index : goal.returns-clause-first_memory_by_its_index
returns-clause-first_memory_by_its_index c = both (0x28 ∷ []) (0x42 ∷ 0x00 ∷ 0x05 ∷ []) refl (named 0 (omega arith))

pub returns-clause-second_memory : goal.returns-clause-second_memory
returns-clause-second_memory c = both (0x28 ∷ []) (0x42 ∷ 0x01 ∷ 0x05 ∷ []) refl (named 1 (omega arith))

pub returns-clause-first_memory_as_written : goal.returns-clause-first_memory_as_written
returns-clause-first_memory_as_written c = loaded_as_written 2 5 (omega arith) (omega arith)

pub returns-clause-second_memory_as_written : goal.returns-clause-second_memory_as_written
returns-clause-second_memory_as_written c = both (0x28 ∷ []) (0x42 ∷ 0x01 ∷ 0x05 ∷ []) refl
    (record { form = named 1 (omega arith); unnamed = λ first. absurd (omega (arith, first)); named = λ other. place 1 (omega arith) })

pub returns-clause-first_memory_is_not_named : goal.returns-clause-first_memory_is_not_named
returns-clause-first_memory_is_not_named c =
    λ h.
    other_number 2 0x42 (IsUnsigned 64 5) (0x00 ∷ 0x05 ∷ []) (omega arith) (λ same. omega (arith, same))
    (subst (Joined (IsUnsigned 32 2) (IsUnsigned 64 5)) (after_opcode 0x28 h.first h.second (0x42 ∷ 0x00 ∷ 0x05 ∷ []) h.is_first h.whole)
    (h.is_second.unnamed refl))

pub returns-clause-offset_first : goal.returns-clause-offset_first
returns-clause-offset_first c =
    λ h.
    let aligned : 2 ≡ 5 = ap align_of (instr_whole.one (load_word 2 5 0) (load_word 5 2 0) (0x28 ∷ 0x05 ∷ 0x02 ∷ []) h
    (loaded 5 2 (omega arith) (omega arith))) in
    omega (arith, aligned)

pub returns-clause-too_wide : goal.returns-clause-too_wide
returns-clause-too_wide c = λ piece h. too_wide _ h.second refl h.is_second
