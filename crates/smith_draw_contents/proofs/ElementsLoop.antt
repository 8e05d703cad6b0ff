-- One iteration of the loop that draws element segments.
use Rattle.smith_draw_contents.proofs.Common.{[], ap, arith, Bool, chosen_at, Config, Context, Elements, ElementSegment, Error, false}
use Rattle.smith_draw_contents.proofs.Common.{goes_at, KeepsPieces, length, length-append, List, nat_lt, Option, refl, RefType, suc, sym}
use Rattle.smith_draw_contents.proofs.Common.{true, ℕ, ◌++◌, ◌+◌, ◌-◌, ◌<◌, ◌∙◌, ◌∷◌, ◌≡◌, ◌≤◌}
use Rattle.std.proofs.Common.{Err, Ok, Result}
use Rattle.std.proofs.lemmas.List.Sums.{sum_by_push}
use Rattle.smith_types.specs.Segments.{item_count}
use Rattle.smith_types.specs.Syntax.segments.ElementKind.{ElementKind}
use Rattle.smith_bytes.specs.Steps.{◌>>=◌}
use Rattle.smith_draw_types.specs.Grounding.{without_globals}
use Rattle.smith_draw_contents.specs.declared.element_kinds.KindChoice.TheVariants as choice
use Rattle.smith_draw_contents.specs.ElementSegments.{KindChoice, most_items, items_in, element_kind_at, item_type_at, items_at}
use Rattle.smith_draw_contents.specs.ElementSegments.{element_segment_at, element_segments_at}

module _ (config : Config) (context : Context) (kinds : List KindChoice) (total : ℕ) (bytes : List ℕ) {one : KindChoice} {kind : ElementKind
    × Option ℕ} {ty : RefType} {most : ℕ} {first second third : List ℕ} where
  -- a segment is drawn or refused with its items, after its kind and the type of its items
  segment_turn : chosen_at choice.Passive kinds bytes ≡ (one, first) → element_kind_at config context one first ≡ (kind, second)
      → item_type_at config (without_globals context) one second ≡ (ty, third) → most ≡ most_items config kind.1 total
      → element_segment_at config context kinds total bytes
      ≡ (items_at config context ty most third >>= (λ items. Ok (record { kind = kind.0; ty = ty; items = items.0 }, items.1)))
  unfolding element_segment_at
  segment_turn chosen placed typed limit = rw (chosen, placed, typed, limit) refl

  pub segment_drawn : {items : Elements} {after : List ℕ} → chosen_at choice.Passive kinds bytes ≡ (one, first)
      → element_kind_at config context one first ≡ (kind, second) → item_type_at config (without_globals context) one second ≡ (ty, third)
      → most ≡ most_items config kind.1 total
      → items_at config context ty most third ≡ Ok (items, after) → element_segment_at config context kinds total bytes
      ≡ Ok (record { kind = kind.0; ty = ty; items = items }, after)
  segment_drawn chosen placed typed limit drawn = segment_turn chosen placed typed limit ∙ rw drawn refl

  pub segment_not_drawn : {e : Error} → chosen_at choice.Passive kinds bytes ≡ (one, first) → element_kind_at config context one first
      ≡ (kind, second) → item_type_at config (without_globals context) one second ≡ (ty, third) → most ≡ most_items config kind.1 total
      → items_at config context ty most third ≡ Err e → element_segment_at config context kinds total bytes ≡ Err e
  segment_not_drawn chosen placed typed limit drawn = segment_turn chosen placed typed limit ∙ rw drawn refl

-- n segments are made, with `total` items together, and the draws from here on complete the whole
pub record AreSegmentsMade (config : Config) (context : Context) (kinds : List KindChoice) (n : ℕ) (made : List ElementSegment) (total : ℕ)
    (start bytes : List ℕ) (whole : Result (List ElementSegment × List ℕ) Error) : Type 0 where
  pub len : length made ≡ n
  pub total_is : total ≡ items_in made
  pub within : total ≤ config.max_elements
  pub few : n ≤ config.max_element_segments
  pub so_far : element_segments_at config context kinds (config.max_element_segments - n) made bytes ≡ whole
  pub left : KeepsPieces start bytes

module _ {config : Config} {context : Context} {kinds : List KindChoice} {n total : ℕ} {made : List ElementSegment}
    {start bytes mid : List ℕ} {b : Bool} {whole : Result (List ElementSegment × List ℕ) Error} where
  -- the drawn bool ends the segments
  pub segments_stop : AreSegmentsMade config context kinds n made total start bytes whole → n < config.max_element_segments
      → goes_at (nat_lt n config.min_element_segments) bytes ≡ (b, mid) → b ≡ false → whole ≡ Ok (made, mid)
  unfolding element_segments_at
  segments_stop now lt go off =
      let k : config.max_element_segments - n ≡ suc (config.max_element_segments - suc n) = omega arith in
      let one : element_segments_at config context kinds (config.max_element_segments - n) made bytes ≡ Ok (made, mid) =
      rw (k, now.len, go, off) refl in
      sym now.so_far ∙ one

  -- another segment was drawn or refused
  segments_turn : AreSegmentsMade config context kinds n made total start bytes whole → n < config.max_element_segments
      → goes_at (nat_lt n config.min_element_segments) bytes ≡ (b, mid) → b ≡ true
      → whole ≡ (element_segment_at config context kinds total mid >>= (λ segment. element_segments_at config context kinds
      (config.max_element_segments - (n + 1)) (made ++ segment.0 ∷ []) segment.1))
  unfolding element_segments_at
  segments_turn now lt go on =
      let k : config.max_element_segments - n ≡ suc (config.max_element_segments - (n + 1)) = omega arith in
      let one : element_segments_at config context kinds (config.max_element_segments - n) made bytes
      ≡ (element_segment_at config context kinds total mid >>= (λ segment. element_segments_at config context kinds
      (config.max_element_segments - (n + 1)) (made ++ segment.0 ∷ []) segment.1)) = rw (k, now.len, go, on, now.total_is) refl in
      sym now.so_far ∙ one

  -- a segment was refused
  pub segments_refused : {e : Error} → AreSegmentsMade config context kinds n made total start bytes whole → n < config.max_element_segments
      → goes_at (nat_lt n config.min_element_segments) bytes ≡ (b, mid) → b ≡ true
      → element_segment_at config context kinds total mid ≡ Err e → whole ≡ Err e
  segments_refused now lt go on drawn = segments_turn now lt go on ∙ rw drawn refl

  -- one more segment was drawn
  pub segments_go : {more : List ElementSegment} {grown : ℕ} {segment : ElementSegment} {after : List ℕ}
      → AreSegmentsMade config context kinds n made total start bytes whole → n < config.max_element_segments
      → goes_at (nat_lt n config.min_element_segments) bytes ≡ (b, mid) → b ≡ true → element_segment_at config context kinds total mid
      ≡ Ok (segment, after) → more ≡ made ++ segment ∷ [] → grown ≡ total + item_count segment.items → grown ≤ config.max_elements
      → KeepsPieces bytes mid → KeepsPieces mid after → AreSegmentsMade config context kinds (n + 1) more grown start after whole
  segments_go {segment = segment} now lt go on drawn longer counted within p q =
      let turned : element_segment_at config context kinds total mid >>= (λ segment. element_segments_at config context kinds
      (config.max_element_segments - (n + 1)) (made ++ segment.0 ∷ []) segment.1) ≡ whole = sym (segments_turn now lt go on) in
      rw longer (record {
        len = rw length-append (omega (arith, now.len));
        total_is = counted ∙ (ap (λ (sum : ℕ). sum + item_count segment.items) now.total_is
            ∙ sym (sum_by_push (λ (one : ElementSegment). item_count one.items) made segment));
        within = within;
        few = omega arith;
        so_far = rw drawn at turned;
        left = λ whole h. q whole (p whole (now.left whole h));
      })

-- no more segments may be drawn
pub segments_full : {config : Config} {context : Context} {kinds : List KindChoice} {n total : ℕ} {made : List ElementSegment}
    {start bytes : List ℕ} {whole : Result (List ElementSegment × List ℕ) Error}
    → AreSegmentsMade config context kinds n made total start bytes whole → config.max_element_segments ≤ n → whole ≡ Ok (made, bytes)
unfolding element_segments_at
segments_full {config = config} {context = context} {kinds = kinds} {n = n} {made = made} {bytes = bytes} now le =
    let k : config.max_element_segments - n ≡ 0 = omega arith in
    let one : element_segments_at config context kinds (config.max_element_segments - n) made bytes ≡ Ok (made, bytes) = rw k refl in
    sym now.so_far ∙ one
