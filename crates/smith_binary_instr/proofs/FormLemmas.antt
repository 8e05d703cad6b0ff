-- What is written is in the grammar.
use Rattle.smith_binary_instr.proofs.Common.{joined_written, ◌<◌}
use Rattle.std.proofs.Common.{[], List, ℕ, ◌+◌, ◌^◌, ◌∷◌, ◌≡◌}
use Rattle.smith_binary.specs.Spelling.{Spelling, IsUnsignedIn}
use Rattle.smith_binary.specs.Spelling.Spelling.{any, written}
use Rattle.smith_binary.specs.Pieces.{Joined, Each, Output, Writes}
use Rattle.smith_binary_sections.specs.Instructions.{IsIndexIn}
use Rattle.smith_binary_sections.proofs.ListLemmas.{locals_spelled}
use Rattle.smith_types.specs.Syntax.value_type.ValType.{ValType}
use Rattle.smith_instr.specs.declared.instr.Instr.{Instr}
use Rattle.smith_instr.specs.declared.instr.Instr.TheVariants as instr
use Rattle.smith_instr.specs.declared.memory.MemArg.{MemArg}
use Rattle.smith_binary_instr.specs.Bodies.{IsFuncBody, IsFuncBodyWritten}
use Rattle.smith_binary_instr.specs.Instructions.{IsExprIn, IsExprWrittenIn, IsInstrIn, IsInstrsIn, IsInstrWrittenIn, IsInstrsWrittenIn}
use Rattle.smith_binary_instr.specs.Memory.{IsLaneAccessIn, IsLaneAccessWrittenIn, IsMemArg, IsMemArgIn, IsMemArgWrittenIn}

-- the place of an access to the first memory, and to another
pub first_arg_written : {old between new : Output} (at : MemArg) → at.memory ≡ 0 → at.align < 2 ^ 6
    → Writes (λ s. IsUnsignedIn s 32 at.align) old between → Writes (λ s. IsUnsignedIn s 64 at.offset) between new
    → Writes (λ s. IsMemArgWrittenIn s at) old new
first_arg_written at first small align offset =
    let both = joined_written align offset in
    let form = IsMemArg.first_memory first small both.spelled in
    record {
      piece = both.piece;
      spelled = record { form = form; unnamed = λ first. both.spelled; named = λ other. absurd (other first) };
      kept = record { form = form; unnamed = λ first. both.kept; named = λ other. absurd (other first) };
      whole = both.whole;
      same = both.same;
    }

pub named_arg_written : {a b c d : Output} (at : MemArg) → (at.memory ≡ 0 → ⊥) → at.align < 2 ^ 6
    → Writes (λ s. IsUnsignedIn s 32 (at.align + 2 ^ 6)) a b → Writes (λ s. IsIndexIn s at.memory) b c
    → Writes (λ s. IsUnsignedIn s 64 at.offset) c d
    → Writes (λ s. IsMemArgWrittenIn s at) a d
named_arg_written at other small align memory offset =
    let all = joined_written align (joined_written memory offset) in
    let form = IsMemArg.named_memory small all.spelled in
    record {
      piece = all.piece;
      spelled = record { form = form; unnamed = λ first. absurd (other first); named = λ other. all.spelled };
      kept = record { form = form; unnamed = λ first. absurd (other first); named = λ other. all.kept };
      whole = all.whole;
      same = all.same;
    }

mem_arg_is : (s : Spelling) (at : MemArg) (piece : List ℕ) → IsMemArgWrittenIn s at piece → IsMemArgIn s at piece
mem_arg_is any at piece h = h.form
mem_arg_is (written least) at piece h = h

access_is : {Opcode : List ℕ → Type 0} (s : Spelling) (at : MemArg) (piece : List ℕ) → Joined Opcode (IsMemArgWrittenIn s at) piece
    → Joined Opcode (IsMemArgIn s at) piece
access_is s at piece h = record {
  first = h.first;
  second = h.second;
  is_first = h.is_first;
  is_second = mem_arg_is s at h.second
      h.is_second;
  whole = h.whole;
}

lane_access_is : (s : Spelling) (first log2_bytes : ℕ) (at : MemArg) (lane : ℕ) (piece : List ℕ)
    → IsLaneAccessWrittenIn s first log2_bytes at lane piece → IsLaneAccessIn s first log2_bytes at lane piece
lane_access_is s first log2_bytes at lane piece (small, h) =
    let rest = h.is_second in (
      small,
      record {
        first = h.first;
        second = h.second;
        is_first = h.is_first;
        is_second = record {
          first = rest.first;
          second = rest.second;
          is_first = mem_arg_is s at rest.first rest.is_first;
          is_second = rest.is_second;
          whole = rest.whole;
        };
        whole = h.whole;
      },
    )

pub instr_is : (s : Spelling) (instruction : Instr) (piece : List ℕ) → IsInstrWrittenIn s instruction piece → IsInstrIn s instruction piece
instr_is s (instr.Load op at) piece h = access_is s at piece h
instr_is s (instr.Store op at) piece h = access_is s at piece h
instr_is s (instr.VectorLoad op at) piece h = access_is s at piece h
instr_is s (instr.VectorStore at) piece h = access_is s at piece h
instr_is s (instr.VectorLoadLane log2_bytes at lane) piece h = lane_access_is s 84 log2_bytes at lane piece h
instr_is s (instr.VectorStoreLane log2_bytes at lane) piece h = lane_access_is s 88 log2_bytes at lane piece h
instr_is s (instr.Atomic access at) piece h = access_is s at piece h
instr_is s _ piece h = h

pub instrs_are : (s : Spelling) (instructions : List Instr) (piece : List ℕ) → IsInstrsWrittenIn s instructions piece
    → IsInstrsIn s instructions piece
unfolding Each
instrs_are s [] piece h = h
instrs_are s (instruction ∷ more) piece h = record {
  first = h.first;
  second = h.second;
  is_first = instr_is s instruction h.first h.is_first;
  is_second = instrs_are s more h.second h.is_second;
  whole = h.whole;
}

pub expr_is : (s : Spelling) (instructions : List Instr) (piece : List ℕ) → IsExprWrittenIn s instructions piece
    → IsExprIn s instructions piece
expr_is s instructions piece h = record {
  first = h.first;
  second = h.second;
  is_first = instrs_are s instructions h.first h.is_first;
  is_second = h.is_second;
  whole = h.whole;
}

pub func_body_is : (locals : List ValType) (instructions : List Instr) (piece : List ℕ) → IsFuncBodyWritten locals instructions piece
    → IsFuncBody locals instructions piece
func_body_is locals instructions piece h =
    let content = h.is_content in
    record {
      content = h.content;
      is_content = record {
        first = content.first;
        second = content.second;
        is_first = locals_spelled locals content.first content.is_first;
        is_second = expr_is any instructions content.second content.is_second;
        whole = content.whole;
      };
      form = h.form;
    }
