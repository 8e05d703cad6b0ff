-- Immediates that are read: the readings are sound and complete.
use Rattle.smith_binary_read_instr.proofs.Common.{ap, arith, Bool, branch, Decodes, false, false≢true, Front, front_same, heap_decodes}
use Rattle.smith_binary_read_instr.proofs.Common.{IsByte, IsUnsigned, Joined, le-ltb, List, ne_eqb, Ok, refl, step, subst, tag_front}
use Rattle.smith_binary_read_instr.proofs.Common.{tagged_read, tagged_sound, test_passed, true, unsigned_decodes, val_decodes, ℕ, ◌++◌, ◌∙◌}
use Rattle.smith_binary_read_instr.proofs.Common.{◌∷◌, ◌≡◌, ◌≤◌}
use Rattle.std.proofs.Common.{leb, ltb, ◌||◌}
use Rattle.std.proofs.lemmas.Bool.{lt-leb}
use Rattle.smith_types.specs.Syntax.value_type.HeapType.{HeapType}
use Rattle.smith_types.specs.Syntax.value_type.ValType.{ValType}
use Rattle.smith_types.specs.Syntax.value_type.ValType.TheVariants.{I32, I64, F32, F64, V128, Ref}
use Rattle.smith_binary_sections.specs.Types.{IsHeapType, IsValType}
use Rattle.smith_binary_read.specs.Choices.{coded_at}
use Rattle.smith_binary_read.specs.Numbers.{two_at}
use Rattle.smith_binary_read.proofs.ReadLemmas.{joined_decodes}
use Rattle.smith_binary_read.proofs.ChoiceLemmas.{Begins, begins_as, byte_begins, mapped_sound}
use Rattle.smith_binary_read.proofs.ChoiceLemmas.{coded_decodes, positive_begins, type_index_decodes}
use Rattle.smith_binary_read.proofs.TypeLemmas.{head_is, ref_begins}
use Rattle.smith_binary_instr.specs.Control.{IsBlockType, IsBranchCast, IsCatch, cast_byte}
use Rattle.smith_instr.specs.declared.control.BlockType.{BlockType}
use Rattle.smith_instr.specs.declared.control.BlockType.TheVariants as block
use Rattle.smith_instr.specs.declared.control.BranchCast.{BranchCast}
use Rattle.smith_instr.specs.declared.control.Catch.{Catch}
use Rattle.smith_instr.specs.declared.control.Catch.TheVariants as catch
use Rattle.smith_binary_read_instr.specs.ControlReadings.{block_type_at, catch_at, cast_rows, cast_at, heap_types_at, targets_at}
use Rattle.smith_binary_read_instr.specs.ControlReadings.{branch_cast, branch_cast_at}

-- two indices
pub two_decode : Decodes (λ (parts : ℕ × ℕ). Joined (IsUnsigned 32 parts.0) (IsUnsigned 32 parts.1)) two_at
two_decode = joined_decodes (λ first second. (first, second)) (λ parts. parts.0) (λ parts. parts.1) (λ x y. refl) (λ x y. refl) (λ z. refl)
    (unsigned_decodes 32) (unsigned_decodes 32)

-- types of blocks
block_sound : (bytes : List ℕ) (x : BlockType) (rest : List ℕ) → block_type_at bytes ≡ Ok (x, rest) → Front (IsBlockType x) bytes rest
unfolding block_type_at
block_sound bytes x rest e = step _ _ _ e (λ byte first e.
    branch _ _ _ _ e (λ is e. front_same IsBlockType block.Empty x byte.1 rest e (tag_front 0x40 bytes byte first is)) (λ is_not e.
    branch _ _ _ _ e (λ is e. mapped_sound IsBlockType block.Func type_index_decodes (λ y piece h. h) bytes x rest e) (λ is_not e.
    mapped_sound IsBlockType block.Value val_decodes (λ y piece h. h) bytes x rest e)))

val_begins : (x : ValType) (piece : List ℕ) → IsValType x piece → Begins (λ (b : ℕ). (0x63 ≤ b) × (b ≤ 0x7F)) piece
val_begins I32 piece h = byte_begins _ 0x7F piece (omega arith, omega arith) h
val_begins I64 piece h = byte_begins _ 0x7E piece (omega arith, omega arith) h
val_begins F32 piece h = byte_begins _ 0x7D piece (omega arith, omega arith) h
val_begins F64 piece h = byte_begins _ 0x7C piece (omega arith, omega arith) h
val_begins V128 piece h = byte_begins _ 0x7B piece (omega arith, omega arith) h
val_begins (Ref reference) piece h = begins_as _ _ piece (λ b t. (t.0, omega (arith, t.1))) (ref_begins reference piece h)

no_index : (b : ℕ) → 0x63 ≤ b → b ≤ 0x7F → (ltb b 64 || leb 128 b) ≡ false
no_index b low high = rw (le-ltb b 64 (omega arith), lt-leb 128 b (omega arith)) refl

block_complete : (x : BlockType) (piece rest : List ℕ) → IsBlockType x piece → block_type_at (piece ++ rest) ≡ Ok (x, rest)
unfolding block_type_at
block_complete block.Empty piece rest h = ap (λ (bytes : List ℕ). block_type_at (bytes ++ rest)) h
block_complete (block.Value value) piece rest h =
    let begins = val_begins value piece h in
    let low : 0x63 ≤ begins.head = begins.test.0 in
    let high : begins.head ≤ 0x7F = begins.test.1 in
    rw (
      head_is _ piece rest begins (omega arith),
      ne_eqb begins.head 0x40 (λ e. omega arith),
      no_index begins.head low high,
      val_decodes.complete value piece rest h,
    ) refl
block_complete (block.Func index) piece rest h =
    let begins = positive_begins 33 index piece h in
    rw (
      head_is _ piece rest begins begins.test.0,
      ne_eqb begins.head 0x40 (λ e. false≢true (subst (λ (b : ℕ). (ltb b 64 || leb 128 b) ≡ true) e begins.test.1)),
      begins.test.1,
      type_index_decodes.complete index piece rest h,
    ) refl

pub block_type_decodes : Decodes IsBlockType block_type_at
block_type_decodes = record { sound = block_sound; complete = block_complete }

-- clauses of `try_table`
catch_sound : (bytes : List ℕ) (x : Catch) (rest : List ℕ) → catch_at bytes ≡ Ok (x, rest) → Front (IsCatch x) bytes rest
unfolding catch_at
catch_sound bytes x rest e = step _ _ _ e (λ byte first e.
    branch _ _ _ _ e (λ is e. tagged_sound IsCatch (λ parts. catch.One parts.0 parts.1) 0x00 two_decode
    (λ y piece h. h) bytes byte x rest first is e) (λ is_not e.
    branch _ _ _ _ e (λ is e. tagged_sound IsCatch (λ parts. catch.OneRef parts.0 parts.1) 0x01 two_decode
    (λ y piece h. h) bytes byte x rest first is e) (λ is_not e.
    branch _ _ _ _ e (λ is e. tagged_sound IsCatch catch.All 0x02 (unsigned_decodes 32) (λ y piece h. h) bytes byte x rest first is e)
    (λ is_not e.
    test_passed _ _ _ _ e (λ is e. tagged_sound IsCatch catch.AllRef 0x03 (unsigned_decodes 32)
    (λ y piece h. h) bytes byte x rest first is e)))))

catch_complete : (x : Catch) (piece rest : List ℕ) → IsCatch x piece → catch_at (piece ++ rest) ≡ Ok (x, rest)
unfolding catch_at
catch_complete (catch.One tag label) piece rest h =
    ap catch_at (tagged_read 0x00 rest h) ∙ rw (two_decode.complete (tag, label) h.second rest h.is_second) refl
catch_complete (catch.OneRef tag label) piece rest h =
    ap catch_at (tagged_read 0x01 rest h) ∙ rw (two_decode.complete (tag, label) h.second rest h.is_second) refl
catch_complete (catch.All label) piece rest h =
    ap catch_at (tagged_read 0x02 rest h) ∙ rw ((unsigned_decodes 32).complete label h.second rest h.is_second) refl
catch_complete (catch.AllRef label) piece rest h =
    ap catch_at (tagged_read 0x03 rest h) ∙ rw ((unsigned_decodes 32).complete label h.second rest h.is_second) refl

pub catch_decodes : Decodes IsCatch catch_at
catch_decodes = record { sound = catch_sound; complete = catch_complete }

-- branches on casts
cast_again : (nullable : Bool × Bool) (rest : List ℕ) → coded_at cast_rows (cast_byte nullable.0 nullable.1 ∷ rest) ≡ Ok (nullable, rest)
cast_again (false, false) rest = refl
cast_again (true, false) rest = refl
cast_again (false, true) rest = refl
cast_again (true, true) rest = refl

cast_decodes : Decodes (λ (nullable : Bool × Bool). IsByte (cast_byte nullable.0 nullable.1)) cast_at
unfolding cast_at
cast_decodes = coded_decodes (λ nullable. cast_byte nullable.0 nullable.1) cast_rows (refl, (refl, (refl, (refl, tt)))) cast_again

heap_types_decode : Decodes (λ (types : HeapType × HeapType). Joined (IsHeapType types.0) (IsHeapType types.1)) heap_types_at
heap_types_decode = joined_decodes (λ from to. (from, to)) (λ types. types.0) (λ types. types.1) (λ x y. refl) (λ x y. refl) (λ z. refl)
    heap_decodes heap_decodes

targets_decode : Decodes
    (λ (parts : ℕ × (HeapType × HeapType)). Joined (IsUnsigned 32 parts.0) (Joined (IsHeapType parts.1.0) (IsHeapType parts.1.1)))
    targets_at
unfolding targets_at
targets_decode =
    joined_decodes (λ label types. (label, types)) (λ parts. parts.0) (λ parts. parts.1) (λ x y. refl) (λ x y. refl) (λ z. refl)
    (unsigned_decodes 32) heap_types_decode

pub branch_cast_decodes : Decodes IsBranchCast branch_cast_at
unfolding branch_cast_at
branch_cast_decodes = joined_decodes branch_cast (λ (cast : BranchCast). (cast.from.nullable, cast.to.nullable))
    (λ (cast : BranchCast). (cast.label, (cast.from.heap_type, cast.to.heap_type))) (λ x y. refl) (λ x y. refl) (λ z. refl)
    cast_decodes targets_decode
