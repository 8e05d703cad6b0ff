-- Memory and table instructions that are read: the readings are sound and complete.
use Rattle.smith_binary_read_instr.proofs.Common.{ap, arith, Bool, branch, eqb, false, false≢true, Front, front_as, Instr, IsByte, IsInstr}
use Rattle.smith_binary_read_instr.proofs.Common.{IsMemArg, IsUnsigned, item_holds, item_is, Joined, List, ltb-false, ltb-true, mapped_at}
use Rattle.smith_binary_read_instr.proofs.Common.{MemArg, None, Ok, Option, prefix_alone, Reading, refl, Some, step, subst, sym}
use Rattle.smith_binary_read_instr.proofs.Common.{tagged_sound, test_passed, true, unsigned_decodes, ℕ, ◌++◌, ◌<◌, ◌∙◌, ◌∷◌, ◌≡◌, ◌≤◌}
use Rattle.smith_instr.specs.declared.instr.Instr.TheVariants as instr
use Rattle.smith_instr.specs.declared.memory.Load.{Load}
use Rattle.smith_instr.specs.declared.memory.Load.TheVariants as load
use Rattle.smith_instr.specs.declared.memory.MemoryInstr.{MemoryInstr}
use Rattle.smith_instr.specs.declared.memory.MemoryInstr.TheVariants as memory
use Rattle.smith_instr.specs.declared.memory.Store.{Store}
use Rattle.smith_instr.specs.declared.memory.Store.TheVariants as store
use Rattle.smith_instr.specs.declared.numeric.NumericInstr.{NumericInstr}
use Rattle.smith_instr.specs.declared.table.TableInstr.{TableInstr}
use Rattle.smith_instr.specs.declared.table.TableInstr.TheVariants as table
use Rattle.smith_binary_instr.specs.Memory.{IsMemory, load_opcode, store_opcode}
use Rattle.smith_binary_instr.specs.Numeric.{IsNumeric}
use Rattle.smith_binary_instr.specs.References.{IsTable}
use Rattle.smith_binary_read_instr.specs.ControlReadings.{variable_at}
use Rattle.smith_binary_read_instr.specs.InstrReadings.{low_instr_at, prefixed_at, instr_at}
use Rattle.smith_binary_read_instr.specs.MemoryReadings.{mem_arg_at, load_of, store_of, access_at, bytes_instr_at, elements_instr_at}
use Rattle.smith_binary_read_instr.specs.MemoryReadings.{numeric_or, bulk_at}
use Rattle.smith_binary_read_instr.specs.NumericReadings.{saturating_rows, saturating_of}
use Rattle.smith_binary_read_instr.proofs.ImmediateLemmas.{two_decode}
use Rattle.smith_binary_read_instr.proofs.MemArgLemmas.{mem_arg_decodes}
use Rattle.smith_binary_read_instr.proofs.RowLemmas.{at_least, in_range, above, exactly, Within, After, number_front, after_mapped}
use Rattle.smith_binary_read_instr.proofs.RowLemmas.{tagged_complete, numbered_complete}

-- loads and stores, by their opcodes
load_tested : (byte : ℕ) → 0x28 ≤ byte → byte < 0x36 → eqb byte (load_opcode (load_of byte)) ≡ true
unfolding load_of
load_tested byte low high = in_range (λ b. eqb b (load_opcode (load_of b))) 14 0x28 byte refl low high

store_tested : (byte : ℕ) → 0x36 ≤ byte → byte < 0x3F → eqb byte (store_opcode (store_of byte)) ≡ true
unfolding store_of
store_tested byte low high = in_range (λ b. eqb b (store_opcode (store_of b))) 9 0x36 byte refl low high

pub access_sound : (bytes : List ℕ) (x : Instr) (rest : List ℕ) → Within 0x28 0x41 bytes → access_at bytes ≡ Ok (x, rest)
    → Front (IsInstr x) bytes rest
unfolding access_at
access_sound bytes x rest within e = step _ _ _ e (λ byte first e.
    let bounds = within byte first in
    branch _ _ _ _ e (λ is e. tagged_sound IsInstr (instr.Load (load_of byte.0)) (load_opcode (load_of byte.0)) mem_arg_decodes
    (λ y piece h. h) bytes byte x rest first (load_tested byte.0 bounds.0 (ltb-true byte.0 0x36 is)) e) (λ no_load e.
    branch _ _ _ _ e (λ is e. tagged_sound IsInstr (instr.Store (store_of byte.0)) (store_opcode (store_of byte.0)) mem_arg_decodes
    (λ y piece h. h) bytes byte x rest first (store_tested byte.0 (ltb-false byte.0 0x36 no_load) (ltb-true byte.0 0x3F is)) e)
    (λ no_store e.
    branch _ _ _ _ e (λ is e. tagged_sound IsInstr (λ index. instr.Memory (memory.Size index)) 0x3F (unsigned_decodes 32)
    (λ y piece h. h) bytes byte x rest first (exactly byte.0 0x3F (ltb-false byte.0 0x3F no_store) (ltb-true byte.0 0x40 is)) e)
    (λ no_size e. tagged_sound IsInstr (λ index. instr.Memory (memory.Grow index)) 0x40 (unsigned_decodes 32)
    (λ y piece h. h) bytes byte x rest first (exactly byte.0 0x40 (ltb-false byte.0 0x40 no_size) bounds.1) e))))

-- a numeric instruction that was found, or not
numeric_branch : {G : Type 0} (o : Option NumericInstr) (rest : List ℕ) (other : Reading Instr) (x : Instr) (after : List ℕ)
    → numeric_or o rest other ≡ Ok (x, after)
    → ((op : NumericInstr) → o ≡ Some op → instr.Numeric op ≡ x → rest ≡ after → G) → (o ≡ None → other ≡ Ok (x, after) → G) → G
numeric_branch (Some op) rest other x after e if_some if_none =
    let same = item_is (instr.Numeric op) x rest after e in if_some op refl same.0 same.1
numeric_branch None rest other x after e if_some if_none = if_none refl e

saturating_form : (number : ℕ) (op : NumericInstr) → saturating_of number ≡ Some op → (piece : List ℕ) → IsUnsigned 32 number piece
    → IsNumeric op (0xFC ∷ piece)
unfolding saturating_of
saturating_form number op is = item_holds (λ n op. (piece : List ℕ) → IsUnsigned 32 n piece → IsNumeric op (0xFC ∷ piece)) saturating_rows (
  prefix_alone 0xFC 0,
  (
    prefix_alone 0xFC 1,
    (
      prefix_alone 0xFC 2,
      (
        prefix_alone 0xFC 3,
        (
          prefix_alone 0xFC 4,
          (
            prefix_alone 0xFC 5,
            (
              prefix_alone 0xFC 6,
              (
                prefix_alone 0xFC 7,
                (
                  prefix_alone 0xFC 19,
                  (
                    prefix_alone 0xFC 20,
                    (
                      prefix_alone 0xFC 21,
                      (prefix_alone 0xFC 22, tt),
                    ),
                  ),
                ),
              ),
            ),
          ),
        ),
      ),
    ),
  ),
) number op is

is_found : Option NumericInstr → Bool
is_found (Some op) = true
is_found None = false

eight_least : (number : ℕ) → saturating_of number ≡ None → 8 ≤ number
unfolding saturating_of is_found
eight_least number none = at_least number 8 _ refl (λ high. high) (λ low.
    let found : is_found (saturating_of number) ≡ true =
    in_range (λ n. is_found (saturating_of n)) 8 0 number refl (omega arith) (omega arith)
    in absurd (false≢true (sym (ap is_found none) ∙ found)))

bytes_sound : (number : ℕ) (bytes : List ℕ) (x : Instr) (rest : List ℕ) → 8 ≤ number → number < 12
    → bytes_instr_at number bytes ≡ Ok (x, rest)
    → Front (After 0xFC number (IsInstr x)) bytes rest
unfolding bytes_instr_at
bytes_sound number bytes x rest low high e =
    branch _ _ _ _ e (λ is e. after_mapped IsInstr (λ parts. instr.Memory (memory.Init parts.1 parts.0)) 0xFC 8 number two_decode
    (λ y piece h. h) is bytes x rest e) (λ no_8 e.
    branch _ _ _ _ e (λ is e. after_mapped IsInstr (λ index. instr.Memory (memory.DataDrop index)) 0xFC 9 number (unsigned_decodes 32)
    (λ y piece h. h) is bytes x rest e) (λ no_9 e.
    branch _ _ _ _ e (λ is e. after_mapped IsInstr (λ parts. instr.Memory (memory.Copy parts.0 parts.1)) 0xFC 10 number two_decode
    (λ y piece h. h) is bytes x rest e) (λ no_10 e.
    after_mapped IsInstr (λ index. instr.Memory (memory.Fill index)) 0xFC 11 number (unsigned_decodes 32) (λ y piece h. h)
    (exactly number 11 (above number 10 (above number 9 (above number 8 low no_8) no_9) no_10) high) bytes x rest e)))

elements_sound : (number : ℕ) (bytes : List ℕ) (x : Instr) (rest : List ℕ) → 12 ≤ number → number < 18
    → elements_instr_at number bytes ≡ Ok (x, rest) → Front (After 0xFC number (IsInstr x)) bytes rest
unfolding elements_instr_at
elements_sound number bytes x rest low high e =
    branch _ _ _ _ e (λ is e. after_mapped IsInstr (λ parts. instr.Table (table.Init parts.1 parts.0)) 0xFC 12 number two_decode
    (λ y piece h. h) is bytes x rest e) (λ no_12 e.
    branch _ _ _ _ e (λ is e. after_mapped IsInstr (λ index. instr.Table (table.ElemDrop index)) 0xFC 13 number (unsigned_decodes 32)
    (λ y piece h. h) is bytes x rest e) (λ no_13 e.
    branch _ _ _ _ e (λ is e. after_mapped IsInstr (λ parts. instr.Table (table.Copy parts.0 parts.1)) 0xFC 14 number two_decode
    (λ y piece h. h) is bytes x rest e) (λ no_14 e.
    branch _ _ _ _ e (λ is e. after_mapped IsInstr (λ index. instr.Table (table.Grow index)) 0xFC 15 number (unsigned_decodes 32)
    (λ y piece h. h) is bytes x rest e) (λ no_15 e.
    branch _ _ _ _ e (λ is e. after_mapped IsInstr (λ index. instr.Table (table.Size index)) 0xFC 16 number (unsigned_decodes 32)
    (λ y piece h. h) is bytes x rest e) (λ no_16 e.
    let after_14 = above number 14 (above number 13 (above number 12 low no_12) no_13) no_14 in
    after_mapped IsInstr (λ index. instr.Table (table.Fill index)) 0xFC 17 number (unsigned_decodes 32) (λ y piece h. h)
    (exactly number 17 (above number 16 (above number 15 after_14 no_15) no_16) high) bytes x rest e)))))

pub bulk_sound : (bytes : List ℕ) (x : Instr) (rest : List ℕ) → bulk_at bytes ≡ Ok (x, rest)
    → Front (λ piece. IsInstr x (0xFC ∷ piece)) bytes rest
unfolding bulk_at
bulk_sound bytes x rest e = step _ _ _ e (λ number first e.
    let front = (unsigned_decodes 32).sound bytes number.0 number.1 first in
    numeric_branch _ _ _ _ _ e
    (λ op found same after. subst (Front (λ piece. IsInstr x (0xFC ∷ piece)) bytes) after
    (subst (λ z. Front (λ piece. IsInstr z (0xFC ∷ piece)) bytes number.1) same (front_as (saturating_form number.0 op found) front)))
    (λ none e.
    branch _ _ _ _ e (λ is e. number_front (IsInstr x) 0xFC number.0 front
    (bytes_sound number.0 number.1 x rest (eight_least number.0 none) (ltb-true number.0 12 is) e)) (λ no_bytes e.
    test_passed _ _ _ _ e (λ is e. number_front (IsInstr x) 0xFC number.0 front
    (elements_sound number.0 number.1 x rest (ltb-false number.0 12 no_bytes) (ltb-true number.0 18 is) e)))))

-- what is spelled is read
load_again : (op : Load) (bytes : List ℕ) → instr_at (load_opcode op ∷ bytes) ≡ mapped_at (instr.Load op) mem_arg_at bytes
unfolding instr_at low_instr_at access_at load_of
load_again load.I32 bytes = refl
load_again op bytes = refl

store_again : (op : Store) (bytes : List ℕ) → instr_at (store_opcode op ∷ bytes) ≡ mapped_at (instr.Store op) mem_arg_at bytes
unfolding instr_at low_instr_at access_at store_of
store_again store.I32 bytes = refl
store_again op bytes = refl

pub load_complete : (op : Load) (at : MemArg) (piece rest : List ℕ) → Joined (IsByte (load_opcode op)) (IsMemArg at) piece
    → instr_at (piece ++ rest) ≡ Ok (instr.Load op at, rest)
load_complete op at piece rest h = tagged_complete (load_opcode op) (instr.Load op) mem_arg_decodes (load_again op) at piece rest h

pub store_complete : (op : Store) (at : MemArg) (piece rest : List ℕ) → Joined (IsByte (store_opcode op)) (IsMemArg at) piece
    → instr_at (piece ++ rest) ≡ Ok (instr.Store op at, rest)
store_complete op at piece rest h = tagged_complete (store_opcode op) (instr.Store op) mem_arg_decodes (store_again op) at piece rest h

pub memory_complete : (op : MemoryInstr) (piece rest : List ℕ) → IsMemory op piece → instr_at (piece ++ rest) ≡ Ok (instr.Memory op, rest)
unfolding instr_at low_instr_at access_at prefixed_at bulk_at saturating_of bytes_instr_at
memory_complete (memory.Size index) piece rest h =
    tagged_complete 0x3F (λ index. instr.Memory (memory.Size index)) (unsigned_decodes 32) (λ bytes. refl) index piece rest h
memory_complete (memory.Grow index) piece rest h =
    tagged_complete 0x40 (λ index. instr.Memory (memory.Grow index)) (unsigned_decodes 32) (λ bytes. refl) index piece rest h
memory_complete (memory.Init index segment) piece rest h =
    numbered_complete 0xFC 8 (λ parts. instr.Memory (memory.Init parts.1 parts.0)) two_decode
    (λ bytes more after y number part. rw (number, part) refl)
    (segment, index) piece rest h
memory_complete (memory.DataDrop segment) piece rest h =
    numbered_complete 0xFC 9 (λ index. instr.Memory (memory.DataDrop index)) (unsigned_decodes 32)
    (λ bytes more after y number part. rw (number, part) refl)
    segment piece rest h
memory_complete (memory.Copy to from) piece rest h =
    numbered_complete 0xFC 10 (λ parts. instr.Memory (memory.Copy parts.0 parts.1)) two_decode
    (λ bytes more after y number part. rw (number, part) refl)
    (to, from) piece rest h
memory_complete (memory.Fill index) piece rest h =
    numbered_complete 0xFC 11 (λ index. instr.Memory (memory.Fill index)) (unsigned_decodes 32)
    (λ bytes more after y number part. rw (number, part) refl)
    index piece rest h

pub table_complete : (op : TableInstr) (piece rest : List ℕ) → IsTable op piece → instr_at (piece ++ rest) ≡ Ok (instr.Table op, rest)
unfolding instr_at low_instr_at variable_at prefixed_at bulk_at saturating_of elements_instr_at
table_complete (table.Get index) piece rest h =
    tagged_complete 0x25 (λ index. instr.Table (table.Get index)) (unsigned_decodes 32) (λ bytes. refl) index piece rest h
table_complete (table.Set index) piece rest h =
    tagged_complete 0x26 (λ index. instr.Table (table.Set index)) (unsigned_decodes 32) (λ bytes. refl) index piece rest h
table_complete (table.Init index segment) piece rest h =
    numbered_complete 0xFC 12 (λ parts. instr.Table (table.Init parts.1 parts.0)) two_decode
    (λ bytes more after y number part. rw (number, part) refl)
    (segment, index) piece rest h
table_complete (table.ElemDrop segment) piece rest h =
    numbered_complete 0xFC 13 (λ index. instr.Table (table.ElemDrop index)) (unsigned_decodes 32)
    (λ bytes more after y number part. rw (number, part) refl)
    segment piece rest h
table_complete (table.Copy to from) piece rest h =
    numbered_complete 0xFC 14 (λ parts. instr.Table (table.Copy parts.0 parts.1)) two_decode
    (λ bytes more after y number part. rw (number, part) refl)
    (to, from) piece rest h
table_complete (table.Grow index) piece rest h =
    numbered_complete 0xFC 15 (λ index. instr.Table (table.Grow index)) (unsigned_decodes 32)
    (λ bytes more after y number part. rw (number, part) refl)
    index piece rest h
table_complete (table.Size index) piece rest h =
    numbered_complete 0xFC 16 (λ index. instr.Table (table.Size index)) (unsigned_decodes 32)
    (λ bytes more after y number part. rw (number, part) refl)
    index piece rest h
table_complete (table.Fill index) piece rest h =
    numbered_complete 0xFC 17 (λ index. instr.Table (table.Fill index)) (unsigned_decodes 32)
    (λ bytes more after y number part. rw (number, part) refl)
    index piece rest h
