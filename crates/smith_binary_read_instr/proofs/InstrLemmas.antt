-- Instructions that are read: the reading is sound and complete.
use Rattle.smith_binary_read_instr.proofs.Common.{ap, branch, Decodes, Front, Instr, IsInstr, List, ltb-false, ltb-true, Ok, refl, step}
use Rattle.smith_binary_read_instr.proofs.Common.{tag_front, test_passed, unsigned_decodes, val_decodes, ℕ, ◌++◌, ◌<◌, ◌≡◌, ◌≤◌}
use Rattle.smith_binary_read.specs.Readings.{byte_at}
use Rattle.smith_binary_read.proofs.IntegerLemmas.{little_endian_decodes, signed_decodes}
use Rattle.smith_binary_read.proofs.ContentLemmas.{list_decodes}
use Rattle.smith_binary_read.proofs.PrefixLemmas.{tag_joined}
use Rattle.smith_instr.specs.declared.instr.Instr.TheVariants as instr
use Rattle.smith_binary_read_instr.specs.ControlReadings.{block_at, branch_at, call_at, parametric_at, variable_at}
use Rattle.smith_binary_read_instr.specs.InstrReadings.{low_instr_at, high_instr_at, prefixed_at, instr_at}
use Rattle.smith_binary_read_instr.specs.NumericReadings.{const_at}
use Rattle.smith_binary_read_instr.specs.ReferenceReadings.{reference_at}
use Rattle.smith_binary_read_instr.proofs.ImmediateLemmas.{two_decode, block_type_decodes, catch_decodes}
use Rattle.smith_binary_read_instr.proofs.ControlLemmas.{block_sound, branch_sound, call_sound, parametric_sound, variable_sound}
use Rattle.smith_binary_read_instr.proofs.ControlLemmas.{reference_sound}
use Rattle.smith_binary_read_instr.proofs.NumericLemmas.{numeric_sound, const_sound, numeric_complete}
use Rattle.smith_binary_read_instr.proofs.MemoryLemmas.{access_sound, bulk_sound, load_complete, store_complete, memory_complete}
use Rattle.smith_binary_read_instr.proofs.MemoryLemmas.{table_complete}
use Rattle.smith_binary_read_instr.proofs.AggregateLemmas.{aggregate_sound, reference_complete, branch_cast_complete}
use Rattle.smith_binary_read_instr.proofs.AggregateLemmas.{branch_cast_fail_complete, aggregate_complete}
use Rattle.smith_binary_read_instr.proofs.AtomicLemmas.{atomic_sound, atomic_complete, fence_complete}
use Rattle.smith_binary_read_instr.proofs.VectorLemmas.{vector_sound, vector_complete, vector_load_complete, vector_store_complete}
use Rattle.smith_binary_read_instr.proofs.VectorLemmas.{vector_const_complete, load_lane_complete, store_lane_complete}
use Rattle.smith_binary_read_instr.proofs.RowLemmas.{above, exactly, within, tagged_complete, joined_complete}

-- by the range of the first byte
low_sound : (bytes : List ℕ) (byte : ℕ × List ℕ) (x : Instr) (rest : List ℕ) → byte_at bytes ≡ Ok byte → byte.0 < 0x41
    → low_instr_at byte.0 bytes ≡ Ok (x, rest) → Front (IsInstr x) bytes rest
unfolding low_instr_at
low_sound bytes byte x rest first high e =
    branch _ _ _ _ e (λ is e. block_sound bytes x rest e) (λ no_block e.
    branch _ _ _ _ e (λ is e. branch_sound bytes x rest
    (within 0x0C 0x10 bytes byte first (ltb-false byte.0 0x0C no_block) (ltb-true byte.0 0x10 is)) e) (λ no_branch e.
    branch _ _ _ _ e (λ is e. call_sound bytes x rest
    (within 0x10 0x16 bytes byte first (ltb-false byte.0 0x10 no_branch) (ltb-true byte.0 0x16 is)) e) (λ no_call e.
    branch _ _ _ _ e (λ is e. parametric_sound bytes x rest e) (λ no_parametric e.
    branch _ _ _ _ e (λ is e. variable_sound bytes x rest e) (λ no_variable e.
    access_sound bytes x rest (within 0x28 0x41 bytes byte first (ltb-false byte.0 0x28 no_variable) high) e)))))

high_sound : (bytes : List ℕ) (byte : ℕ × List ℕ) (x : Instr) (rest : List ℕ) → byte_at bytes ≡ Ok byte → 0x41 ≤ byte.0
    → high_instr_at byte.0 bytes ≡ Ok (x, rest) → Front (IsInstr x) bytes rest
unfolding high_instr_at
high_sound bytes byte x rest first low e =
    branch _ _ _ _ e (λ is e. const_sound bytes x rest (within 0x41 0x45 bytes byte first low (ltb-true byte.0 0x45 is)) e) (λ no_const e.
    branch _ _ _ _ e (λ is e. numeric_sound bytes x rest
    (within 0x45 0xC5 bytes byte first (ltb-false byte.0 0x45 no_const) (ltb-true byte.0 0xC5 is)) e) (λ no_numeric e.
    reference_sound bytes x rest e))

prefixed_sound : (bytes : List ℕ) (byte : ℕ × List ℕ) (x : Instr) (rest : List ℕ) → byte_at bytes ≡ Ok byte → 0xFB ≤ byte.0
    → byte.0 < 0xFF → prefixed_at byte.0 byte.1 ≡ Ok (x, rest) → Front (IsInstr x) bytes rest
unfolding prefixed_at
prefixed_sound bytes byte x rest first low high e =
    branch _ _ _ _ e (λ is e. tag_joined 0xFB (IsInstr x) bytes byte.1 rest (tag_front 0xFB bytes byte first is)
    (aggregate_sound byte.1 x rest e)) (λ no_FB e.
    branch _ _ _ _ e (λ is e. tag_joined 0xFC (IsInstr x) bytes byte.1 rest (tag_front 0xFC bytes byte first is)
    (bulk_sound byte.1 x rest e)) (λ no_FC e.
    branch _ _ _ _ e (λ is e. tag_joined 0xFD (IsInstr x) bytes byte.1 rest (tag_front 0xFD bytes byte first is)
    (vector_sound byte.1 x rest e)) (λ no_FD e.
    let is = exactly byte.0 0xFE (above byte.0 0xFD (above byte.0 0xFC (above byte.0 0xFB low no_FB) no_FC) no_FD) high in
    tag_joined 0xFE (IsInstr x) bytes byte.1 rest (tag_front 0xFE bytes byte first is) (atomic_sound byte.1 x rest e))))

pub instr_sound : (bytes : List ℕ) (x : Instr) (rest : List ℕ) → instr_at bytes ≡ Ok (x, rest) → Front (IsInstr x) bytes rest
unfolding instr_at
instr_sound bytes x rest e = step _ _ _ e (λ byte first e.
    branch _ _ _ _ e (λ is e. low_sound bytes byte x rest first (ltb-true byte.0 0x41 is) e) (λ no_low e.
    branch _ _ _ _ e (λ is e. high_sound bytes byte x rest first (ltb-false byte.0 0x41 no_low) e) (λ no_high e.
    test_passed _ _ _ _ e (λ is e.
    prefixed_sound bytes byte x rest first (ltb-false byte.0 0xFB no_high) (ltb-true byte.0 0xFF is) e))))

pub instr_complete : (x : Instr) (piece rest : List ℕ) → IsInstr x piece → instr_at (piece ++ rest) ≡ Ok (x, rest)
unfolding instr_at low_instr_at high_instr_at block_at branch_at call_at parametric_at variable_at const_at reference_at
instr_complete instr.Unreachable piece rest h = ap (λ (bytes : List ℕ). instr_at (bytes ++ rest)) h
instr_complete instr.Nop piece rest h = ap (λ (bytes : List ℕ). instr_at (bytes ++ rest)) h
instr_complete instr.Else piece rest h = ap (λ (bytes : List ℕ). instr_at (bytes ++ rest)) h
instr_complete instr.End piece rest h = ap (λ (bytes : List ℕ). instr_at (bytes ++ rest)) h
instr_complete instr.ThrowRef piece rest h = ap (λ (bytes : List ℕ). instr_at (bytes ++ rest)) h
instr_complete instr.Return piece rest h = ap (λ (bytes : List ℕ). instr_at (bytes ++ rest)) h
instr_complete instr.Drop piece rest h = ap (λ (bytes : List ℕ). instr_at (bytes ++ rest)) h
instr_complete instr.Select piece rest h = ap (λ (bytes : List ℕ). instr_at (bytes ++ rest)) h
instr_complete (instr.Block ty) piece rest h = tagged_complete 0x02 instr.Block block_type_decodes (λ bytes. refl) ty piece rest h
instr_complete (instr.Loop ty) piece rest h = tagged_complete 0x03 instr.Loop block_type_decodes (λ bytes. refl) ty piece rest h
instr_complete (instr.If ty) piece rest h = tagged_complete 0x04 instr.If block_type_decodes (λ bytes. refl) ty piece rest h
instr_complete (instr.Throw tag) piece rest h = tagged_complete 0x08 instr.Throw (unsigned_decodes 32) (λ bytes. refl) tag piece rest h
instr_complete (instr.Br label) piece rest h = tagged_complete 0x0C instr.Br (unsigned_decodes 32) (λ bytes. refl) label piece rest h
instr_complete (instr.BrIf label) piece rest h = tagged_complete 0x0D instr.BrIf (unsigned_decodes 32) (λ bytes. refl) label piece rest h
instr_complete (instr.Call function) piece rest h =
    tagged_complete 0x10 instr.Call (unsigned_decodes 32) (λ bytes. refl) function piece rest h
instr_complete (instr.ReturnCall function) piece rest h =
    tagged_complete 0x12 instr.ReturnCall (unsigned_decodes 32) (λ bytes. refl) function piece rest h
instr_complete (instr.CallRef ty) piece rest h = tagged_complete 0x14 instr.CallRef (unsigned_decodes 32) (λ bytes. refl) ty piece rest h
instr_complete (instr.ReturnCallRef ty) piece rest h =
    tagged_complete 0x15 instr.ReturnCallRef (unsigned_decodes 32) (λ bytes. refl) ty piece rest h
instr_complete (instr.BrOnNull label) piece rest h =
    tagged_complete 0xD5 instr.BrOnNull (unsigned_decodes 32) (λ bytes. refl) label piece rest h
instr_complete (instr.BrOnNonNull label) piece rest h =
    tagged_complete 0xD6 instr.BrOnNonNull (unsigned_decodes 32) (λ bytes. refl) label piece rest h
instr_complete (instr.SelectTyped values) piece rest h =
    tagged_complete 0x1C instr.SelectTyped (list_decodes val_decodes) (λ bytes. refl) values piece rest h
instr_complete (instr.LocalGet local) piece rest h =
    tagged_complete 0x20 instr.LocalGet (unsigned_decodes 32) (λ bytes. refl) local piece rest h
instr_complete (instr.LocalSet local) piece rest h =
    tagged_complete 0x21 instr.LocalSet (unsigned_decodes 32) (λ bytes. refl) local piece rest h
instr_complete (instr.LocalTee local) piece rest h =
    tagged_complete 0x22 instr.LocalTee (unsigned_decodes 32) (λ bytes. refl) local piece rest h
instr_complete (instr.GlobalGet global) piece rest h =
    tagged_complete 0x23 instr.GlobalGet (unsigned_decodes 32) (λ bytes. refl) global piece rest h
instr_complete (instr.GlobalSet global) piece rest h =
    tagged_complete 0x24 instr.GlobalSet (unsigned_decodes 32) (λ bytes. refl) global piece rest h
instr_complete (instr.I32Const value) piece rest h =
    tagged_complete 0x41 instr.I32Const (signed_decodes 32) (λ bytes. refl) value piece rest h
instr_complete (instr.I64Const value) piece rest h =
    tagged_complete 0x42 instr.I64Const (signed_decodes 64) (λ bytes. refl) value piece rest h
instr_complete (instr.F32Const bits) piece rest h =
    tagged_complete 0x43 instr.F32Const (little_endian_decodes 4) (λ bytes. refl) bits piece rest h
instr_complete (instr.F64Const bits) piece rest h =
    tagged_complete 0x44 instr.F64Const (little_endian_decodes 8) (λ bytes. refl) bits piece rest h
instr_complete (instr.TryTable ty clauses) piece rest h =
    joined_complete 0x1F instr.TryTable block_type_decodes (list_decodes catch_decodes) (λ bytes. refl) ty clauses piece rest h
instr_complete (instr.BrTable labels last) piece rest h =
    joined_complete 0x0E instr.BrTable (list_decodes (unsigned_decodes 32)) (unsigned_decodes 32) (λ bytes. refl) labels last piece rest h
instr_complete (instr.CallIndirect table ty) piece rest h =
    tagged_complete 0x11 (λ parts. instr.CallIndirect parts.1 parts.0) two_decode (λ bytes. refl) (ty, table) piece rest h
instr_complete (instr.ReturnCallIndirect table ty) piece rest h =
    tagged_complete 0x13 (λ parts. instr.ReturnCallIndirect parts.1 parts.0) two_decode (λ bytes. refl) (ty, table) piece rest h
instr_complete (instr.BrOnCast cast) piece rest h = branch_cast_complete cast piece rest h
instr_complete (instr.BrOnCastFail cast) piece rest h = branch_cast_fail_complete cast piece rest h
instr_complete (instr.Table op) piece rest h = table_complete op piece rest h
instr_complete (instr.Reference op) piece rest h = reference_complete op piece rest h
instr_complete (instr.Load op at) piece rest h = load_complete op at piece rest h
instr_complete (instr.Store op at) piece rest h = store_complete op at piece rest h
instr_complete (instr.Memory op) piece rest h = memory_complete op piece rest h
instr_complete (instr.Numeric op) piece rest h = numeric_complete op piece rest h
instr_complete (instr.Aggregate op) piece rest h = aggregate_complete op piece rest h
instr_complete (instr.VectorLoad op at) piece rest h = vector_load_complete op at piece rest h
instr_complete (instr.VectorStore at) piece rest h = vector_store_complete at piece rest h
instr_complete (instr.V128Const value) piece rest h = vector_const_complete value piece rest h
instr_complete (instr.VectorLoadLane log2_bytes at lane) piece rest h = load_lane_complete log2_bytes at lane piece rest h
instr_complete (instr.VectorStoreLane log2_bytes at lane) piece rest h = store_lane_complete log2_bytes at lane piece rest h
instr_complete (instr.Vector op) piece rest h = vector_complete op piece rest h
instr_complete (instr.Atomic access at) piece rest h = atomic_complete access at piece rest h
instr_complete instr.AtomicFence piece rest h = fence_complete piece rest h

pub instr_decodes : Decodes IsInstr instr_at
instr_decodes = record { sound = instr_sound; complete = instr_complete }
