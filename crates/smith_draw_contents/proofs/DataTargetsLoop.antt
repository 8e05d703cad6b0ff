-- One iteration of the loop over the memories that count, and the memory that is chosen.
use Rattle.smith_draw_contents.proofs.Common.{[], All, All-nil, All-push, All-weaker, ap, arith, at_drop_all, at_drop_more, Bool, chosen_at}
use Rattle.smith_draw_contents.proofs.Common.{drop, false, get_or, get_or_from_slice_get, KeepsPieces, length, List, map-append, MemoryType}
use Rattle.smith_draw_contents.proofs.Common.{refl, slice_get-get_or, Some, sym, true, ℕ, ◌++◌, ◌+◌, ◌-◌, ◌<◌, ◌∙◌, ◌∷◌, ◌≡◌, ◌≤◌}
use Rattle.std.proofs.lemmas.List.{append-nil, get_or-map, length-map}
use Rattle.std.proofs.lemmas.List.Elements.{All-map}
use Rattle.smith_bytes.proofs.DrawnLemmas.{range_within}
use Rattle.smith_bytes.specs.Draws.{range_at}
use Rattle.smith_draw_contents.specs.OfferedIndices.{Indices}
use Rattle.smith_draw_consts.specs.ConstOffers.{offered_if}
use Rattle.smith_draw_contents.specs.DataSegments.{Indexed, no_memory, may_hold_data_at, counting_at}
use Rattle.smith_draw_contents.specs.DataTargets.{StandsIn, indexed}

-- the memories that count after one whose draw is known
abbrev counted : List Indexed → ℕ → List MemoryType → MemoryType → Bool × List ℕ → List Indexed × List ℕ
counted counting index rest memory counts = counting_at (counting ++ offered_if counts.0 (index, memory)) (index + 1) rest counts.1

-- the memories before an index were visited, and counting from there on completes the whole
pub record IsCounting (memories : List MemoryType) (index : ℕ) (drawn : Indices) (start bytes : List ℕ) : Type 0 where
  pub end : drawn.end ≡ index
  pub within : All (λ one. one < length memories) drawn.offered
  pub so_far : counting_at (indexed memories drawn.offered) index (drop index memories) bytes ≡ counting_at [] 0 memories start
  pub left : KeepsPieces start bytes

module _ {memories : List MemoryType} {index : ℕ} {drawn : Indices} {start bytes after : List ℕ} {memory : MemoryType} {b : Bool} where
  one_counted : IsCounting memories index drawn start bytes → index < length memories → memory ≡ get_or memories index memory
      → may_hold_data_at memory bytes ≡ (b, after)
      → counted (indexed memories drawn.offered) index (drop (index + 1) memories) memory (b, after) ≡ counting_at [] 0 memories start
  unfolding counting_at
  one_counted now inside at draws =
      let counting = indexed memories drawn.offered in
      let rest = drop (index + 1) memories in
      let here = at_drop_more (λ (left : List MemoryType). counting_at counting index left bytes) memories index memory inside in
      let same = ap (λ (one : MemoryType). counting_at counting index (one ∷ rest) bytes) at in
      ap (counted counting index rest memory) (sym draws) ∙ (same ∙ (sym here ∙ now.so_far))

  -- a memory counts
  pub counting_more : {more : Indices} → IsCounting memories index drawn start bytes → index < length memories
      → memory ≡ get_or memories index memory → may_hold_data_at memory bytes ≡ (b, after) → b ≡ true
      → more ≡ record { end = drawn.end + 1; offered = drawn.offered ++ drawn.end ∷ [] } → KeepsPieces bytes after
      → IsCounting memories (index + 1) more start after
  counting_more now inside at draws on grown kept =
      let found : get_or memories index no_memory.1 ≡ memory = get_or_from_slice_get memories index memory no_memory.1
      (slice_get-get_or memories index memory inside ∙ ap (λ (one : MemoryType). Some one) (sym at)) in
      let longer : indexed memories (drawn.offered ++ index ∷ []) ≡ indexed memories drawn.offered ++ (index, memory) ∷ [] =
      rw (map-append, found) refl in
      rw (grown, now.end) (record {
        end = refl;
        within = All-push (λ one. one < length memories) drawn.offered index now.within inside;
        so_far = ap (λ (counting : List Indexed). counting_at counting (index + 1) (drop (index + 1) memories) after) longer
            ∙ (rw on at (one_counted now inside at draws));
        left = λ whole h. kept whole (now.left whole h);
      })

  -- a memory does not count
  pub counting_skip : {more : Indices} → IsCounting memories index drawn start bytes → index < length memories
      → memory ≡ get_or memories index memory → may_hold_data_at memory bytes ≡ (b, after) → b ≡ false
      → more ≡ record { end = drawn.end + 1; offered = drawn.offered } → KeepsPieces bytes after
      → IsCounting memories (index + 1) more start after
  counting_skip now inside at draws off grown kept =
      rw (grown, now.end) (record {
        end = refl;
        within = now.within;
        so_far = ap (λ (counting : List Indexed). counting_at counting (index + 1) (drop (index + 1) memories) after)
            (sym (append-nil (indexed memories drawn.offered))) ∙ (rw off at (one_counted now inside at draws));
        left = λ whole h. kept whole (now.left whole h);
      })

-- all memories were visited
pub counting_done : {memories : List MemoryType} {index : ℕ} {drawn : Indices} {start bytes : List ℕ}
    → IsCounting memories index drawn start bytes → length memories ≤ index → counting_at [] 0 memories start
    ≡ (indexed memories drawn.offered, bytes)
unfolding counting_at
counting_done {memories = memories} {index = index} {drawn = drawn} {bytes = bytes} now done =
    sym now.so_far ∙ at_drop_all (λ (rest : List MemoryType). counting_at (indexed memories drawn.offered) index rest bytes) memories index
    done

-- before the first memory
pub counting_begin : (memories : List MemoryType) (drawn : Indices) (bytes : List ℕ) → drawn ≡ record { end = 0; offered = [] }
    → IsCounting memories 0 drawn bytes bytes
counting_begin memories drawn bytes none =
    rw none (record { end = refl; within = All-nil (λ one. one < length memories); so_far = refl; left = λ whole h. h })

-- memories exist if their indices are small enough
pub indexed_stand : (memories : List MemoryType) (indices : List ℕ) → All (λ one. one < length memories) indices
    → All (StandsIn memories) (indexed memories indices)
indexed_stand memories indices within =
    All-map (StandsIn memories) (λ index. (index, get_or memories index no_memory.1)) indices
    (All-weaker (λ one. one < length memories) (λ index. StandsIn memories (index, get_or memories index no_memory.1))
    (λ index inside. slice_get-get_or memories index no_memory.1 inside) indices within)

-- the memory of a chosen index
pub memory_chosen : (memories : List MemoryType) (indices bytes : List ℕ) (index : ℕ) (after : List ℕ)
    → 0 < length (indexed memories indices) → chosen_at 0 indices bytes ≡ (index, after)
    → chosen_at no_memory (indexed memories indices) bytes ≡ ((index, get_or memories index no_memory.1), after)
unfolding chosen_at
memory_chosen memories indices bytes index after some chosen =
    let with_memory : ℕ → Indexed = λ one. (one, get_or memories one no_memory.1) in
    let place = range_at 0 (length indices - 1) bytes in
    let mapped = get_or-map with_memory indices place.0 0 no_memory
    (omega (arith, some, length-map indices with_memory, range_within 0 (length indices - 1) bytes (omega arith))) in
    rw (length-map, mapped) (ap (λ (drawn : ℕ × List ℕ). (with_memory drawn.0, drawn.1)) chosen)
