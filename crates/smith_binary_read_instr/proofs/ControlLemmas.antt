-- Control, parametric, variable and reference instructions that are read: the readings are sound and complete.
use Rattle.smith_binary_read_instr.proofs.Common.{branch, Front, front_same, heap_decodes, Instr, IsInstr, List, Ok, refl, step, tag_front}
use Rattle.smith_binary_read_instr.proofs.Common.{tagged_sound, test_passed, unsigned_decodes, val_decodes, ℕ, ◌∷◌, ◌≡◌}
use Rattle.smith_binary_read.proofs.ContentLemmas.{list_decodes}
use Rattle.smith_binary_read.proofs.ChoiceLemmas.{or_branch}
use Rattle.smith_binary_read.proofs.PrefixLemmas.{tag_joined}
use Rattle.smith_instr.specs.declared.instr.Instr.TheVariants as instr
use Rattle.smith_instr.specs.declared.reference.ReferenceInstr.TheVariants as reference
use Rattle.smith_instr.specs.declared.table.TableInstr.TheVariants as table
use Rattle.smith_binary_read_instr.specs.ControlReadings.{control_rows, block_at, branch_at, call_at, parametric_at, variable_at}
use Rattle.smith_binary_read_instr.specs.ReferenceReadings.{reference_rows, reference_at}
use Rattle.smith_binary_read_instr.proofs.ImmediateLemmas.{two_decode, block_type_decodes, catch_decodes}
use Rattle.smith_binary_read_instr.proofs.RowLemmas.{above, exactly, Within, row_front, tag_before, joined_sound}

pub block_sound : (bytes : List ℕ) (x : Instr) (rest : List ℕ) → block_at bytes ≡ Ok (x, rest) → Front (IsInstr x) bytes rest
unfolding block_at
block_sound bytes x rest e = step _ _ _ e (λ byte first e. or_branch _ _ _ _ _ e
    (λ is after. row_front control_rows (refl, (refl, (refl, (refl, (refl, tt))))) bytes byte x rest first is after) (λ is_not e.
    branch _ _ _ _ e (λ is e. tagged_sound IsInstr instr.Block 0x02 block_type_decodes (λ y piece h. h) bytes byte x rest first is e)
    (λ is_not e.
    branch _ _ _ _ e (λ is e. tagged_sound IsInstr instr.Loop 0x03 block_type_decodes (λ y piece h. h) bytes byte x rest first is e)
    (λ is_not e.
    branch _ _ _ _ e (λ is e. tagged_sound IsInstr instr.If 0x04 block_type_decodes (λ y piece h. h) bytes byte x rest first is e)
    (λ is_not e.
    test_passed _ _ _ _ e (λ is e. tagged_sound IsInstr instr.Throw 0x08 (unsigned_decodes 32)
    (λ y piece h. h) bytes byte x rest first is e))))))

pub branch_sound : (bytes : List ℕ) (x : Instr) (rest : List ℕ) → Within 0x0C 0x10 bytes → branch_at bytes ≡ Ok (x, rest)
    → Front (IsInstr x) bytes rest
unfolding branch_at
branch_sound bytes x rest within e = step _ _ _ e (λ byte first e.
    branch _ _ _ _ e (λ is e. tagged_sound IsInstr instr.Br 0x0C (unsigned_decodes 32) (λ y piece h. h) bytes byte x rest first is e)
    (λ no_0C e.
    branch _ _ _ _ e (λ is e. tagged_sound IsInstr instr.BrIf 0x0D (unsigned_decodes 32) (λ y piece h. h) bytes byte x rest first is e)
    (λ no_0D e.
    branch _ _ _ _ e (λ is e. tag_joined 0x0E (IsInstr x) bytes byte.1 rest (tag_front 0x0E bytes byte first is)
    (joined_sound (λ z piece. IsInstr z (0x0E ∷ piece)) instr.BrTable (list_decodes (unsigned_decodes 32)) (unsigned_decodes 32)
    (λ y z piece h. tag_before 0x0E piece h) byte.1 x rest e)) (λ no_0E e.
    let bounds = within byte first in
    let is = exactly byte.0 0x0F (above byte.0 0x0E (above byte.0 0x0D (above byte.0 0x0C bounds.0 no_0C) no_0D) no_0E) bounds.1 in
    front_same IsInstr instr.Return x byte.1 rest e (tag_front 0x0F bytes byte first is)))))

pub call_sound : (bytes : List ℕ) (x : Instr) (rest : List ℕ) → Within 0x10 0x16 bytes → call_at bytes ≡ Ok (x, rest)
    → Front (IsInstr x) bytes rest
unfolding call_at
call_sound bytes x rest within e = step _ _ _ e (λ byte first e.
    branch _ _ _ _ e (λ is e. tagged_sound IsInstr instr.Call 0x10 (unsigned_decodes 32) (λ y piece h. h) bytes byte x rest first is e)
    (λ no_10 e.
    branch _ _ _ _ e (λ is e. tagged_sound IsInstr (λ parts. instr.CallIndirect parts.1 parts.0) 0x11 two_decode
    (λ y piece h. h) bytes byte x rest first is e) (λ no_11 e.
    branch _ _ _ _ e (λ is e. tagged_sound IsInstr instr.ReturnCall 0x12 (unsigned_decodes 32)
    (λ y piece h. h) bytes byte x rest first is e) (λ no_12 e.
    branch _ _ _ _ e (λ is e. tagged_sound IsInstr (λ parts. instr.ReturnCallIndirect parts.1 parts.0) 0x13 two_decode
    (λ y piece h. h) bytes byte x rest first is e) (λ no_13 e.
    branch _ _ _ _ e (λ is e. tagged_sound IsInstr instr.CallRef 0x14 (unsigned_decodes 32)
    (λ y piece h. h) bytes byte x rest first is e) (λ no_14 e.
    let bounds = within byte first in
    let after_12 = above byte.0 0x12 (above byte.0 0x11 (above byte.0 0x10 bounds.0 no_10) no_11) no_12 in
    let is = exactly byte.0 0x15 (above byte.0 0x14 (above byte.0 0x13 after_12 no_13) no_14) bounds.1 in
    tagged_sound IsInstr instr.ReturnCallRef 0x15 (unsigned_decodes 32) (λ y piece h. h) bytes byte x rest first is e))))))

pub parametric_sound : (bytes : List ℕ) (x : Instr) (rest : List ℕ) → parametric_at bytes ≡ Ok (x, rest) → Front (IsInstr x) bytes rest
unfolding parametric_at
parametric_sound bytes x rest e = step _ _ _ e (λ byte first e.
    branch _ _ _ _ e (λ is e. front_same IsInstr instr.Drop x byte.1 rest e (tag_front 0x1A bytes byte first is)) (λ is_not e.
    branch _ _ _ _ e (λ is e. front_same IsInstr instr.Select x byte.1 rest e (tag_front 0x1B bytes byte first is)) (λ is_not e.
    branch _ _ _ _ e (λ is e. tagged_sound IsInstr instr.SelectTyped 0x1C (list_decodes val_decodes)
    (λ y piece h. h) bytes byte x rest first is e) (λ is_not e.
    test_passed _ _ _ _ e (λ is e. tag_joined 0x1F (IsInstr x) bytes byte.1 rest (tag_front 0x1F bytes byte first is)
    (joined_sound (λ z piece. IsInstr z (0x1F ∷ piece)) instr.TryTable block_type_decodes (list_decodes catch_decodes)
    (λ y z piece h. tag_before 0x1F piece h) byte.1 x rest e))))))

pub variable_sound : (bytes : List ℕ) (x : Instr) (rest : List ℕ) → variable_at bytes ≡ Ok (x, rest) → Front (IsInstr x) bytes rest
unfolding variable_at
variable_sound bytes x rest e = step _ _ _ e (λ byte first e.
    branch _ _ _ _ e (λ is e. tagged_sound IsInstr instr.LocalGet 0x20 (unsigned_decodes 32)
    (λ y piece h. h) bytes byte x rest first is e) (λ is_not e.
    branch _ _ _ _ e (λ is e. tagged_sound IsInstr instr.LocalSet 0x21 (unsigned_decodes 32)
    (λ y piece h. h) bytes byte x rest first is e) (λ is_not e.
    branch _ _ _ _ e (λ is e. tagged_sound IsInstr instr.LocalTee 0x22 (unsigned_decodes 32)
    (λ y piece h. h) bytes byte x rest first is e) (λ is_not e.
    branch _ _ _ _ e (λ is e. tagged_sound IsInstr instr.GlobalGet 0x23 (unsigned_decodes 32)
    (λ y piece h. h) bytes byte x rest first is e) (λ is_not e.
    branch _ _ _ _ e (λ is e. tagged_sound IsInstr instr.GlobalSet 0x24 (unsigned_decodes 32)
    (λ y piece h. h) bytes byte x rest first is e) (λ is_not e.
    branch _ _ _ _ e (λ is e. tagged_sound IsInstr (λ index. instr.Table (table.Get index)) 0x25 (unsigned_decodes 32)
    (λ y piece h. h) bytes byte x rest first is e) (λ is_not e.
    test_passed _ _ _ _ e (λ is e. tagged_sound IsInstr (λ index. instr.Table (table.Set index)) 0x26 (unsigned_decodes 32)
    (λ y piece h. h) bytes byte x rest first is e))))))))

pub reference_sound : (bytes : List ℕ) (x : Instr) (rest : List ℕ) → reference_at bytes ≡ Ok (x, rest) → Front (IsInstr x) bytes rest
unfolding reference_at
reference_sound bytes x rest e = step _ _ _ e (λ byte first e. or_branch _ _ _ _ _ e
    (λ is after. row_front reference_rows (refl, (refl, (refl, tt))) bytes byte x rest first is after) (λ is_not e.
    branch _ _ _ _ e (λ is e. tagged_sound IsInstr (λ heap. instr.Reference (reference.Null heap)) 0xD0 heap_decodes
    (λ y piece h. h) bytes byte x rest first is e) (λ is_not e.
    branch _ _ _ _ e (λ is e. tagged_sound IsInstr (λ index. instr.Reference (reference.Func index)) 0xD2 (unsigned_decodes 32)
    (λ y piece h. h) bytes byte x rest first is e) (λ is_not e.
    branch _ _ _ _ e (λ is e. tagged_sound IsInstr instr.BrOnNull 0xD5 (unsigned_decodes 32)
    (λ y piece h. h) bytes byte x rest first is e) (λ is_not e.
    test_passed _ _ _ _ e (λ is e. tagged_sound IsInstr instr.BrOnNonNull 0xD6 (unsigned_decodes 32)
    (λ y piece h. h) bytes byte x rest first is e))))))
