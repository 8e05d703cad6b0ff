-- From a source that begins with the spelling of passive data segments, these are drawn if there is
-- no memory.
use Rattle.smith_draw_contents.proofs.Common.{[], ap, append-nil, append_assoc, arith, Bool, bool_read, cond, Config, Context, Error, false}
use Rattle.smith_draw_contents.proofs.Common.{IfOk, if◌then◌else◌, length, length-append, List, map, MemoryType, not, Ok, refl, Result}
use Rattle.smith_draw_contents.proofs.Common.{SpellsBool, suc, Takes, true, zero, ℕ, ◌++◌, ◌+◌, ◌∙◌, ◌∷◌, ◌≡◌, ◌≤◌}
use Rattle.std.proofs.Common.{◌*◌}
use Rattle.std.specs.Prelude.{◌&&◌}
use Rattle.std.proofs.lemmas.Bool.{le-ltb}
use Rattle.smith_bytes.specs.ByteLists.{byte_list_at}
use Rattle.smith_bytes.specs.Draws.{whole_at}
use Rattle.smith_bytes.specs.Growth.{grow_at}
use Rattle.smith_bytes.specs.Spelling.{Listed}
use Rattle.smith_bytes.proofs.SpelledLemmas.{joined_parts}
use Rattle.smith_types.specs.Syntax.segments.DataSegment.{DataSegment}
use Rattle.smith_bytes.specs.Steps.{ReturnsWhy}
use Rattle.smith_draw_contents.specs.DataSegments.{Targets, counting_at, targets_of, passive_at, data_segment_at, data_segments_at, data_at}
use Rattle.smith_draw_contents.specs.PassiveData.{passive_data, SpellsPassive}
use Rattle.smith_draw_types.specs.SpelledParts.{SpellsBytes}
use Rattle.smith_bytes.proofs.StepLemmas.{given_takes}

one_byte : (byte : ℕ) (after : List ℕ) → whole_at 1 (byte ∷ after) ≡ (byte, after)
unfolding whole_at
one_byte byte after = let same : byte + 256 * 0 ≡ byte = omega arith in ap (λ (value : ℕ). (value, after)) same

bool_length : (value : Bool) (piece : List ℕ) → SpellsBool value piece → length piece ≡ 1
bool_length value piece h = rw h.whole refl

bytes_grown : (most : ℕ) (made bytes piece after : List ℕ) → length piece ≤ most → SpellsBytes bytes piece
    → grow_at (λ _. whole_at 1) 0 most made (piece ++ after) ≡ (made ++ bytes, after)
unfolding grow_at SpellsBytes
bytes_grown zero made [] piece after few h = absurd (omega (arith, bool_length false piece h))
bytes_grown zero made (byte ∷ bytes) piece after few h =
    absurd (omega (arith, bool_length true h.first h.is_first, length-append h.first h.second, ap length h.whole))
bytes_grown (suc most) made [] piece after few h = rw (le-ltb (length made) 0 (omega arith), bool_read false piece after h, append-nil) refl
bytes_grown (suc most) made (byte ∷ bytes) piece after few h =
    let item = h.is_second in
    let later = item.second ++ after in
    let fewer : length item.second ≤ most = omega (
      arith,
      few,
      bool_length true h.first h.is_first,
      length-append h.first h.second,
      ap length h.whole,
      length-append item.first item.second,
      ap length item.whole,
    ) in
    let again = bytes_grown most (made ++ byte ∷ []) bytes item.second after fewer item.is_second in
    let here : item.first ++ later ≡ byte ∷ later = ap (λ (l : List ℕ). l ++ later) item.is_first in
    rw (
      joined_parts h after,
      joined_parts item after,
      le-ltb (length made) 0 (omega arith),
      bool_read true h.first (item.first ++ later)
          h.is_first,
      here,
      one_byte byte later,
    )
    (again ∙ ap (λ (l : List ℕ). (l, after)) (append_assoc made (byte ∷ []) bytes))

bytes_read : (bytes piece after : List ℕ) → SpellsBytes bytes piece → byte_list_at (piece ++ after) ≡ (bytes, after)
unfolding byte_list_at
bytes_read bytes piece after h = bytes_grown (length (piece ++ after)) [] bytes piece after (omega (arith, length-append piece after)) h

-- with bulk memory and no memory that counts, a spelled byte list is a passive segment
segment_read : (config : Config) (targets : Targets) (bytes piece after : List ℕ) → config.bulk_memory_enabled ≡ true
    → targets.memories ≡ [] → SpellsBytes bytes piece
    → data_segment_at config targets (piece ++ after) ≡ (passive_data bytes, after)
unfolding data_segment_at passive_at
segment_read config targets bytes piece after bulk none h = rw (bytes_read bytes piece after h, bulk, none) refl

segments_grown : (config : Config) (targets : Targets) (most : ℕ) (made : List DataSegment) (lists : List (List ℕ)) (piece after : List ℕ)
    → config.bulk_memory_enabled ≡ true → targets.memories ≡ [] → Listed SpellsBytes most lists piece
    → grow_at (λ _. data_segment_at config targets) 0 most made (piece ++ after) ≡ (made ++ map (λ bytes. passive_data bytes) lists, after)
unfolding grow_at Listed
segments_grown config targets zero made [] piece after bulk none h = rw (h, append-nil) refl
segments_grown config targets zero made (bytes ∷ lists) piece after bulk none h = absurd h
segments_grown config targets (suc most) made [] piece after bulk none h =
    rw (le-ltb (length made) 0 (omega arith), bool_read false piece after h, append-nil) refl
segments_grown config targets (suc most) made (bytes ∷ lists) piece after bulk none h =
    let item = h.is_second in
    let later = item.second ++ after in
    let again = segments_grown config targets most (made ++ passive_data bytes ∷ []) lists item.second after bulk none item.is_second in
    rw (
      joined_parts h after,
      joined_parts item after,
      le-ltb (length made) 0 (omega arith),
      bool_read true h.first (item.first ++ later)
          h.is_first,
      segment_read config targets bytes item.first later bulk none item.is_first,
    )
    (again ∙ ap (λ (l : List DataSegment). (l, after))
    (append_assoc made (passive_data bytes ∷ []) (map (λ bytes. passive_data bytes) lists)))

no_lists : (lists : List (List ℕ)) (piece : List ℕ) → Listed SpellsBytes 0 lists piece → (piece ≡ []) × (lists ≡ [])
unfolding Listed
no_lists [] piece h = (h, refl)
no_lists (bytes ∷ lists) piece h = absurd h

segments_read : (config : Config) (targets : Targets) (lists : List (List ℕ)) (piece after : List ℕ) → config.bulk_memory_enabled ≡ true
    → config.min_data_segments ≡ 0 → targets.memories ≡ []
    → Listed SpellsBytes config.max_data_segments lists piece → data_segments_at config targets (piece ++ after)
    ≡ (map (λ bytes. passive_data bytes) lists, after)
unfolding data_segments_at
segments_read config targets lists piece after bulk least none h =
    ap (λ (n : ℕ). grow_at (λ _. data_segment_at config targets) n config.max_data_segments [] (piece ++ after)) least
    ∙ segments_grown config targets config.max_data_segments [] lists piece after bulk none h

with_bulk : {A : Type 0} (bulk empty : Bool) (x y : A) → bulk ≡ true → cond (not bulk && empty) x y ≡ y
with_bulk true empty x y on = refl
with_bulk false empty x y on = absurd cc

by_bulk : (config : Config) (context : Context) (bulk : Bool) (lists : List (List ℕ)) (piece after : List ℕ) → config.bulk_memory_enabled
    ≡ bulk → config.min_data_segments ≡ 0
    → Listed SpellsBytes (if bulk then config.max_data_segments else 0) lists piece → data_at config context [] (piece ++ after)
    ≡ Ok (map (λ bytes. passive_data bytes) lists, after)
unfolding data_at counting_at
by_bulk config context true lists piece after bulk least h =
    with_bulk config.bulk_memory_enabled _ _ _ bulk ∙ ap (λ (drawn : List DataSegment × List ℕ). Ok drawn)
    (segments_read config (targets_of config context []) lists piece after bulk least refl h)
by_bulk config context false lists piece after bulk least h =
    let none = no_lists lists piece h in
    rw (bulk, least, none.0, none.1) refl

pub data_read : (config : Config) (context : Context) (memories : List MemoryType) (segments : List DataSegment) (piece after : List ℕ)
    → config.min_data_segments ≡ 0 → memories ≡ [] → SpellsPassive config segments piece
    → data_at config context memories (piece ++ after) ≡ Ok (segments, after)
data_read config context memories segments piece after least none h =
    rw (none, h.are) (by_bulk config context config.bulk_memory_enabled h.lists piece after refl least h.spelled)

-- data segments take the bytes that spell passive ones, if there is no memory and the minimum is 0
pub data_taken : (config : Config) (context : Context) (memories : List MemoryType) (old new : List ℕ)
    (result : Result (List DataSegment) Error) → config.min_data_segments ≡ 0 → memories ≡ []
    → ReturnsWhy (λ segments. (segments, new)) result (data_at config context memories old)
    → IfOk result (λ segments. Takes (SpellsPassive config) old segments new)
data_taken config context memories old new result least none given =
    given_takes (SpellsPassive config) (λ segments. segments) (data_at config context memories) old new result
    (λ segments piece after h. data_read config context memories segments piece after least none h) given
