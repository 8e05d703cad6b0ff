-- Drawn data segments fit into a module: they are valid, and with `disallow_traps` the bytes that
-- they copy fit.
use Rattle.smith_draw_contents.proofs.Common.{[], address_type, All, All-weaker, arith, Bool, chosen_at, chosen_of, cond, Config, Context}
use Rattle.smith_draw_contents.proofs.Common.{drawn_is, false, grow_least, grow_most, inl, inr, IsOffsetInside, IsTrue, IsVisible, length}
use Rattle.smith_draw_contents.proofs.Common.{List, MemoryType, Offset, Ref, refl, subst, SubType, true, ValType, ℕ, ◌<◌, ◌≡◌, ◌≤◌}
use Rattle.std.proofs.Common.{◌⊎◌}
use Rattle.std.specs.Prelude.{IfSome, None, Option, Some, ◌↔◌}
use Rattle.std.specs.List.{Contains}
use Rattle.std.proofs.lemmas.List.Elements.{All-contains_itself}
use Rattle.smith_types.specs.Entities.{IsMemoryValid, page_log2}
use Rattle.smith_types.specs.Syntax.Features.{Features}
use Rattle.smith_types.specs.Segments.{IsOffsetValid}
use Rattle.smith_types.specs.Subtyping.{IsValBelow}
use Rattle.smith_types.specs.Syntax.segments.DataSegmentKind.TheVariants.{Passive, Active}
use Rattle.smith_types.specs.Syntax.value_type.ValType.TheVariants.{F32, F64, I32, I64, V128}
use Rattle.smith_draw_consts.specs.ConstScopes.{IsReadable}
use Rattle.smith_draw_types.proofs.FloatLemmas.{stands_in}
use Rattle.smith_draw_contents.specs.DataSegments.{Targets, Indexed, HasPages, no_memory, least_bytes, data_segment_at, data_segments_at}
use Rattle.smith_draw_contents.specs.DataTargets.{StandsIn, TellOffsets, IsDataFit}

-- a property of all memories that count holds for the chosen memory
pub chosen_keeps : (P : Indexed → Type 0) (items : List Indexed) (bytes : List ℕ) {after : List ℕ} {one : Indexed} → 0 < length items
    → All P items → chosen_at no_memory items bytes ≡ (one, after) → P one
chosen_keeps P items bytes some all chosen = drawn_is P _ (chosen_of P no_memory items bytes some all) chosen

below_number : (wide : Bool) (types : List SubType) (value : ValType) → IsValBelow types value (address_type wide)
    → value ≡ address_type wide
below_number true types I64 h = refl
below_number true types I32 h = absurd h
below_number true types F32 h = absurd h
below_number true types F64 h = absurd h
below_number true types V128 h = absurd h
below_number true types (Ref r) h = absurd h
below_number false types I32 h = refl
below_number false types I64 h = absurd h
below_number false types F32 h = absurd h
below_number false types F64 h = absurd h
below_number false types V128 h = absurd h
below_number false types (Ref r) h = absurd h

readable_tells : (context : Context) (wide : Bool) (index : ℕ) → IsReadable context (address_type wide) index
    → IsVisible context index (address_type wide)
readable_tells context wide index (value, visible, below) = subst (λ (ty : ValType). IsVisible context index ty)
    (below_number wide context.types value below) visible

-- an offset may be read from readable globals
pub readable_tell : (context : Context) (wide : Bool) (globals : List ℕ)
    → ((index : ℕ) → Contains globals index ↔ IsReadable context (address_type wide) index) → TellOffsets context wide globals
readable_tell context wide globals readable =
    All-weaker (Contains globals) (λ index. IsVisible context index (address_type wide)) (λ index inside. readable_tells context wide index
    ((readable index).0 inside)) globals (All-contains_itself globals)

-- an offset may be read from the globals of both widths
pub both_tell : (context : Context) (wide : Bool) (globals32 globals64 : List ℕ) → TellOffsets context false globals32
    → TellOffsets context true globals64 → TellOffsets context wide (cond wide globals64 globals32)
both_tell context true globals32 globals64 narrow broad = broad
both_tell context false globals32 globals64 narrow broad = narrow

pub both_none : (wide : Bool) (globals32 globals64 : List ℕ) → globals32 ≡ [] → globals64 ≡ [] → cond wide globals64 globals32 ≡ []
both_none true globals32 globals64 narrow broad = broad
both_none false globals32 globals64 narrow broad = narrow

-- a segment that is copied into a memory fits
pub active_fit : {config : Config} {context : Context} {memories : List MemoryType} {one : Indexed} {offset : Offset} {init : List ℕ}
    → StandsIn memories one → IsOffsetValid context one.1.memory64 offset
    → (IsTrue config.disallow_traps → IsOffsetInside offset (length init) (least_bytes one.1))
    → IsDataFit config context memories (record { kind = Active one.0 offset; init = init })
active_fit {one = one} stands valid inside = record { valid = (one.1, stands, valid); inside = λ on. (one.1, stands, inside on) }

-- a passive segment fits, with bulk memory
pub passive_fit : {config : Config} {context : Context} {memories : List MemoryType} {init : List ℕ} → IsTrue context.features.bulk_memory
    → IsDataFit config context memories (record { kind = Passive; init = init })
passive_fit bulk = record { valid = bulk; inside = λ on. tt }

-- the number of segments
pub segments_most : (config : Config) (targets : Targets) (bytes : List ℕ) → length (data_segments_at config targets bytes).0
    ≤ config.max_data_segments
unfolding data_segments_at
segments_most config targets bytes = grow_most (λ _. data_segment_at config targets) config.min_data_segments config.max_data_segments
    config.max_data_segments [] bytes (omega arith)

pub segments_least : (config : Config) (targets : Targets) (bytes : List ℕ) → config.min_data_segments ≤ config.max_data_segments
    → config.min_data_segments ≤ length (data_segments_at config targets bytes).0
unfolding data_segments_at
segments_least config targets bytes ordered = grow_least (λ _. data_segment_at config targets) config.min_data_segments
    config.max_data_segments [] bytes (omega arith)

-- a valid memory has pages of 64 KiB, or of the stated number of bytes
page_fits : (features : Features) (stated : Option ℕ)
    → IfSome stated (λ log2. ((log2 ≡ 0) ⊎ (log2 ≡ 16)) × IsTrue features.custom_page_sizes) → page_log2 stated ≤ 16
page_fits features None size = omega arith
page_fits features (Some log2) size = elim size.0 [ inl bytes ↦ omega (arith, bytes) | inr pages ↦ omega (arith, pages) ]

-- each memory that segments may be copied into has pages of 64 KiB, or of the stated number of
-- bytes
pub target_pages : (features : Features) (memories : List MemoryType) (targets : List Indexed) → All (IsMemoryValid features) memories
    → All (StandsIn memories) targets → All HasPages targets
target_pages features memories targets valid stand =
    All-weaker (StandsIn memories) HasPages (λ one at. page_fits features one.1.page_size_log2
    (stands_in (IsMemoryValid features) memories one.0 one.1 at valid).page_size) targets stand
