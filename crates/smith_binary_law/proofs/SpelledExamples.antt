-- Bytes that spell the parts of examples, and the parts of instructions.
use Rattle.smith_binary_law.proofs.Common.{[], AreNested, arith, Bool, Each, false, I32Const, Instr, IsInstr, IsList, IsUnsigned, Joined}
use Rattle.smith_binary_law.proofs.Common.{List, None, plain, pos, refl, Some, sym, true, unsigned_last, ℕ, ◌++◌, ◌<◌, ◌^◌, ◌∷◌, ◌≡◌}
use Rattle.smith_binary.specs.Spelling.Spelling.{any}
use Rattle.smith_binary.specs.Pieces.{IsByte}
use Rattle.smith_binary.proofs.NumberLemmas.{positive_last}
use Rattle.smith_binary.proofs.UnambiguousLemmas.{unsigned_is_unambiguous}
use Rattle.smith_binary.proofs.WrittenLemmas.{each_byte}
use Rattle.smith_types.specs.Syntax.const_instr.ConstInstr.TheVariants.{RefNull}
use Rattle.smith_types.specs.Syntax.value_type.AbstractHeapType.TheVariants as heap
use Rattle.smith_binary_sections.specs.Elements.{IsFuncs}
use Rattle.smith_binary_sections.specs.Instructions.{IsExpression, IsIndex, IsInstr as IsConst, IsPrefixed, offset_of}
use Rattle.smith_binary_law.proofs.CheckLemmas.{both}
use Rattle.smith_instr.specs.declared.instr.Instr.TheVariants as instr
use Rattle.smith_binary_instr.specs.Instructions.{IsInstrWritten}
use Rattle.smith_binary_instr.specs.Memory.{IsMemArg}
use Rattle.smith_binary_instr.proofs.FormLemmas.{instr_is}
use Rattle.smith_binary_instr.specs.Nesting.{blocks_after}
use Rattle.smith_binary_law.specs.ExampleInstructions.{load_word}
use Rattle.smith_binary_law.specs.ExampleSegments.{no_function, start}

-- an integer in one byte
pub small : (bits n : ℕ) → n < 128 → n < 2 ^ bits → IsUnsigned bits n (n ∷ [])
small bits n low room = (unsigned_last bits n low room).spelled

pub index : (n : ℕ) → n < 128 → IsIndex n (n ∷ [])
index n low = small 32 n low (omega arith)

-- a prefix and a number in one byte
pub prefixed : (prefix n : ℕ) → n < 128 → IsPrefixed prefix n (prefix ∷ n ∷ [])
prefixed prefix n low = both (prefix ∷ []) (n ∷ []) refl (index n low)

-- no item, and one more item
pub no_item : {A : Type 0} (Item : A → List ℕ → Type 0) → Each Item [] []
unfolding Each
no_item Item = refl

pub more_items : {A : Type 0} (Item : A → List ℕ → Type 0) (x : A) (xs : List A) (one other : List ℕ) → Item x one → Each Item xs other
    → Each Item (x ∷ xs) (one ++ other)
unfolding Each
more_items Item x xs one other h rest = both one other h rest

-- the first function in a list
pub one_function : IsFuncs (0 ∷ []) (0x01 ∷ 0x00 ∷ [])
one_function = both (0x01 ∷ []) (0x00 ∷ []) (index 1 (omega arith)) (more_items IsIndex 0 [] (0x00 ∷ []) [] (index 0 (omega arith))
    (no_item IsIndex))

-- a byte in a list
pub one_byte : IsList IsByte (0x2A ∷ []) (0x01 ∷ 0x2A ∷ [])
one_byte = both (0x01 ∷ []) (0x2A ∷ []) (index 1 (omega arith)) (each_byte (0x2A ∷ []))

-- an offset of 0, and a null reference
pub start_spelled : IsExpression (offset_of start) (0x41 ∷ 0x00 ∷ 0x0B ∷ [])
start_spelled =
    both (0x41 ∷ 0x00 ∷ []) (0x0B ∷ [])
    (more_items IsConst (I32Const (pos 0)) [] (0x41 ∷ 0x00 ∷ []) []
    (both (0x41 ∷ []) (0x00 ∷ []) refl (positive_last 32 0 (omega arith) (omega arith)).spelled) (no_item IsConst))
    refl

pub null_spelled : IsExpression no_function (0xD0 ∷ 0x70 ∷ 0x0B ∷ [])
null_spelled =
    both (0xD0 ∷ 0x70 ∷ []) (0x0B ∷ []) (more_items IsConst (RefNull (plain heap.Func)) [] (0xD0 ∷ 0x70 ∷ []) []
    (both (0xD0 ∷ []) (0x70 ∷ []) refl refl) (no_item IsConst)) refl

-- bytes that begin with another number than the required one
pub other_number : (n m : ℕ) (Second : List ℕ → Type 0) (piece : List ℕ) → m < 128 → (n ≡ m → ⊥)
    → Joined (IsUnsigned 32 n) Second (m ∷ piece) → ⊥
other_number n m Second piece low differ h =
    differ ((unsigned_is_unambiguous 32).one n m h.first (m ∷ []) h.second piece h.is_first (index m low) (sym h.whole)).item

-- a load in the first memory, as it is written
pub loaded_as_written : (align offset : ℕ) → align < 64 → offset < 128 → IsInstrWritten (load_word align offset 0)
    (0x28 ∷ align ∷ offset ∷ [])
loaded_as_written align offset narrow low =
    let place : Joined (IsUnsigned 32 align) (IsUnsigned 64 offset) (align ∷ offset ∷ []) =
    both (align ∷ []) (offset ∷ []) (index align (omega arith)) (small 64 offset low (omega arith)) in
    both (0x28 ∷ []) (align ∷ offset ∷ []) refl (record {
      form = IsMemArg.first_memory refl narrow place;
      unnamed = λ first. place;
      named = λ other. absurd (other refl);
    })

pub loaded : (align offset : ℕ) → align < 64 → offset < 128 → IsInstr (load_word align offset 0) (0x28 ∷ align ∷ offset ∷ [])
loaded align offset narrow low = instr_is any (load_word align offset 0) (0x28 ∷ align ∷ offset ∷ [])
    (loaded_as_written align offset narrow low)

-- the alignment of a load, and the table of an indirect call
abbrev pub align_of : Instr → ℕ
align_of (instr.Load op at) = at.align
align_of _ = 0

abbrev pub table_of : Instr → ℕ
table_of (instr.CallIndirect table ty) = table
table_of _ = 0

-- whether blocks end
unfoldable pub nests : List Bool → List Instr → Bool
nests [] [] = true
nests (block ∷ blocks) [] = false
nests blocks (x ∷ xs) = elim (blocks_after x blocks) [ None ↦ false | Some next ↦ nests next xs ]

none_left : (blocks : List Bool) → blocks ≡ [] → nests blocks [] ≡ true
unfolding nests
none_left [] e = refl
none_left (block ∷ blocks) e = absurd cc

pub nested_nests : (blocks : List Bool) (xs : List Instr) → AreNested blocks xs → nests blocks xs ≡ true
unfolding nests
nested_nests [] [] h = refl
nested_nests (block ∷ blocks) [] h = none_left (block ∷ blocks) h
nested_nests [] (x ∷ xs) h = rw (nests, h.1) (nested_nests h.0 xs h.2)
nested_nests (block ∷ blocks) (x ∷ xs) h = rw (nests, h.1) (nested_nests h.0 xs h.2)
