-- Data segments that are read: the reading is sound and complete.
use Rattle.smith_decode.proofs.Common.{ap, branch, Decodes, expr_decodes, first_memory, Front, Instr, IsByte, IsList, IsUnsigned, Joined}
use Rattle.smith_decode.proofs.Common.{joined_decodes, List, named_memory, no_memory, Ok, refl, step, sym, test_passed, unsigned_decodes, ℕ}
use Rattle.smith_decode.proofs.Common.{◌++◌, ◌∙◌, ◌≡◌}
use Rattle.smith_binary_sections.specs.Data.{DataForm}
use Rattle.smith_binary_read.proofs.ReadLemmas.{first_read}
use Rattle.smith_binary_read.proofs.ContentLemmas.{bytes_decodes}
use Rattle.smith_binary_read.proofs.ChoiceLemmas.{counted_sound}
use Rattle.smith_decode.specs.declared.data.DataMode.{DataMode}
use Rattle.smith_decode.specs.declared.data.DataMode.TheVariants.{Passive, Active}
use Rattle.smith_decode.specs.declared.data.DataSegment.{DataSegment}
use Rattle.smith_decode.specs.Data.{IsPlaced, IsDataIn}
use Rattle.smith_decode.specs.Data.DataMode.{passive, active}
use Rattle.smith_decode.specs.DataReadings.{segment, segment_view, IsSegment, placed_at, named_at, segment_at}

placed_decodes : Decodes (λ (placed : List Instr × List ℕ). IsPlaced placed.0 placed.1) placed_at
placed_decodes =
    joined_decodes (λ offset bytes. (offset, bytes)) (λ placed. placed.0) (λ placed. placed.1) (λ x y. refl) (λ x y. refl) (λ z. refl)
    expr_decodes bytes_decodes

named_decodes : Decodes (λ (named : ℕ × (List Instr × List ℕ)). Joined (IsUnsigned 32 named.0) (IsPlaced named.1.0 named.1.1)) named_at
named_decodes =
    joined_decodes (λ memory placed. (memory, placed)) (λ named. named.0) (λ named. named.1) (λ x y. refl) (λ x y. refl) (λ z. refl)
    (unsigned_decodes 32) placed_decodes

-- the three forms
in_first : (offset : List Instr) (content piece : List ℕ) → Joined (IsUnsigned 32 0) (IsPlaced offset content) piece
    → IsSegment (segment (Active 0 offset) content) piece
in_first offset content piece h = record {
  form = first_memory;
  spelled = record { first = h.first; second = h.second; is_first = h.is_first; is_second = (offset, refl, h.is_second); whole = h.whole };
}

in_passive : (content piece : List ℕ) → Joined (IsUnsigned 32 1) (IsList IsByte content) piece → IsSegment (segment Passive content) piece
in_passive content piece h = record {
  form = no_memory;
  spelled = record { first = h.first; second = h.second; is_first = h.is_first; is_second = (refl, h.is_second); whole = h.whole };
}

in_named : (memory : ℕ) (offset : List Instr) (content piece : List ℕ)
    → Joined (IsUnsigned 32 2) (Joined (IsUnsigned 32 memory) (IsPlaced offset content)) piece
    → IsSegment (segment (Active memory offset) content) piece
in_named memory offset content piece h = record {
  form = named_memory;
  spelled = record {
    first = h.first;
    second = h.second;
    is_first = h.is_first;
    is_second = (memory, offset, refl, h.is_second);
    whole = h.whole;
  };
}

segment_sound : (bytes : List ℕ) (x : DataSegment) (rest : List ℕ) → segment_at bytes ≡ Ok (x, rest) → Front (IsSegment x) bytes rest
unfolding segment_at
segment_sound bytes x rest e = step _ _ _ e (λ form first e.
    branch _ _ _ _ e
    (λ is e. counted_sound IsSegment (λ placed. segment (Active 0 placed.0) placed.1) 0 placed_decodes
    (λ y piece h. in_first y.0 y.1 piece h) bytes form x rest first is e)
    (λ is_not e. branch _ _ _ _ e
    (λ is e. counted_sound IsSegment (λ content. segment Passive content) 1 bytes_decodes
    (λ y piece h. in_passive y piece h) bytes form x rest first is e)
    (λ is_not e. test_passed _ _ _ _ e
    (λ is e. counted_sound IsSegment (λ named. segment (Active named.0 named.1.0) named.1.1) 2 named_decodes
    (λ y piece h. in_named y.0 y.1.0 y.1.1 piece h) bytes form x rest first is e))))

segment_again : (at : DataMode) (content : List ℕ) (form : DataForm) (piece rest : List ℕ)
    → IsDataIn form (segment_view (segment at content)) piece → segment_at (piece ++ rest) ≡ Ok (segment at content, rest)
unfolding segment_at
segment_again Passive content first_memory piece rest h =
    absurd (let never : passive ≡ active 0 h.is_second.0 = h.is_second.1 in cc)
segment_again (Active memory offset) content first_memory piece rest h =
    let same_memory : memory ≡ 0 = let same = h.is_second.1 in cc in
    let same_offset : offset ≡ h.is_second.0 = let same = h.is_second.1 in cc in
    rw (first_read 0 rest (unsigned_decodes 32) h, placed_decodes.complete (h.is_second.0, content) h.second rest h.is_second.2)
    (ap (λ (m : ℕ). Ok (segment (Active m h.is_second.0) content, rest)) (sym same_memory)
    ∙ ap (λ (o : List Instr). Ok (segment (Active memory o) content, rest)) (sym same_offset))
segment_again Passive content no_memory piece rest h =
    rw (first_read 1 rest (unsigned_decodes 32) h, bytes_decodes.complete content h.second rest h.is_second.1) refl
segment_again (Active memory offset) content no_memory piece rest h =
    absurd (let never : active memory offset ≡ passive = h.is_second.0 in cc)
segment_again Passive content named_memory piece rest h =
    absurd (let never : passive ≡ active h.is_second.0 h.is_second.1 = h.is_second.2 in cc)
segment_again (Active memory offset) content named_memory piece rest h =
    let same_memory : memory ≡ h.is_second.0 = let same = h.is_second.2 in cc in
    let same_offset : offset ≡ h.is_second.1 = let same = h.is_second.2 in cc in
    rw (
      first_read 2 rest (unsigned_decodes 32) h,
      named_decodes.complete
          (h.is_second.0, (h.is_second.1, content)) h.second rest h.is_second.3,
    )
    (ap (λ (m : ℕ). Ok (segment (Active m h.is_second.1) content, rest)) (sym same_memory)
    ∙ ap (λ (o : List Instr). Ok (segment (Active memory o) content, rest)) (sym same_offset))

pub segment_decodes : Decodes IsSegment segment_at
segment_decodes = record { sound = segment_sound; complete = λ x piece rest h. segment_again x.mode x.bytes h.form piece rest h.spelled }
