-- Counts of what is offered: among all items read, and before each block of them.
use Rattle.smith_draw_consts.proofs.Common.{[], ap, arith, cases_lt, get_or, inl, inr, length, List, map, sym, ℕ, ◌%◌, ◌*◌, ◌++◌, ◌+◌, ◌<◌}
use Rattle.smith_draw_consts.proofs.Common.{◌∙◌, ◌∷◌, ◌≡◌, ◌≤◌, ◌⊎◌}
use Rattle.std.proofs.Common.{min, ◌/◌, ◌≢◌}
use Rattle.std.specs.List.{range_with_len}
use Rattle.std.proofs.lemmas.List.FromFn.{fill_by_all, get_or-map-range_with_len, length-map-range_with_len, map-range_with_len_more}
use Rattle.smith_draw_consts.specs.KeptOffers.{IsCounted}
use Rattle.smith_draw_consts.specs.declared.block_counts.BlockCounts.{BlockCounts}

-- the counts before each block of eight
abbrev starts_of : (ℕ → ℕ) → ℕ → List ℕ
starts_of before blocks = map (λ block. before (8 * block)) (range_with_len 0 blocks)

starts_more : (before : ℕ → ℕ) (seen end total : ℕ) (starts : List ℕ) → seen % 8 ≡ 0 → seen < end → end ≤ 8 * (seen / 8 + 1)
    → total ≡ before seen → starts ≡ starts_of before ((seen + 7) / 8) → starts ++ total ∷ [] ≡ starts_of before ((end + 7) / 8)
starts_more before seen end total starts first some within total_is is =
    let blocks : ℕ = (seen + 7) / 8 in
    let here : 8 * blocks ≡ seen = omega arith in
    let more : (end + 7) / 8 ≡ blocks + 1 = omega arith in
    ap (λ xs. xs ++ total ∷ []) is
    ∙ ap (λ (each : ℕ). starts_of before blocks ++ each ∷ []) (total_is ∙ ap before (sym here))
    ∙ sym (map-range_with_len_more (λ block. before (8 * block)) 0 blocks blocks (omega arith))
    ∙ ap (starts_of before) (sym more)

-- more items of a block are read, and the block begun with them, or before
pub counted_next : (before : ℕ → ℕ) (old : BlockCounts) (end offered total : ℕ) (starts : List ℕ) → IsCounted before old → old.seen < end
    → end ≤ 8 * (old.seen / 8 + 1) → before end ≡ before old.seen + offered → total ≡ old.total + offered
    → ((old.seen % 8 ≡ 0) × (starts ≡ old.starts ++ old.total ∷ [])) ⊎ ((old.seen % 8 ≢ 0) × (starts ≡ old.starts))
    → IsCounted before (record { seen = end; total = total; starts = starts })
counted_next before old end offered total starts counted some within next total_is starts_are = record {
  total = total_is ∙ ap (λ (n : ℕ). n + offered) counted.total ∙ sym next;
  starts = elim starts_are [
    | inl (first, longer) ↦ longer ∙ starts_more before old.seen end old.total old.starts first some within counted.total counted.starts
    | inr (later, same) ↦
        let blocks : (old.seen + 7) / 8 ≡ (end + 7) / 8 = omega arith in
        same ∙ counted.starts ∙ ap (starts_of before) blocks
  ];
}

-- the number of blocks
pub blocks_counted : (before : ℕ → ℕ) (counts : BlockCounts) → IsCounted before counts → length counts.starts ≡ (counts.seen + 7) / 8
blocks_counted before counts counted = ap length counted.starts ∙ length-map-range_with_len (λ block. before (8 * block)) 0
    ((counts.seen + 7) / 8)

-- the count before a block
pub block_counted : (before : ℕ → ℕ) (counts : BlockCounts) (block : ℕ) → IsCounted before counts → block < length counts.starts
    → get_or counts.starts block 0 ≡ before (8 * block)
block_counted before counts block counted inside =
    let blocks = blocks_counted before counts counted in
    ap (λ xs. get_or xs block 0) counted.starts ∙ get_or-map-range_with_len (λ each. before (8 * each)) 0 ((counts.seen + 7) / 8) block
    block 0 (omega (arith, blocks, inside)) (omega arith)

pub start_counted : (before : ℕ → ℕ) (counts : BlockCounts) (block : ℕ) → IsCounted before counts → block < length counts.starts
    → get_or counts.starts block 0 ≡ before (min (8 * block) counts.seen)
start_counted before counts block counted inside =
    let blocks = blocks_counted before counts counted in
    let same : 8 * block ≡ min (8 * block) counts.seen = omega (arith, blocks, inside) in
    block_counted before counts block counted inside ∙ ap before same

-- past the last block all items are counted
pub all_counted : (before : ℕ → ℕ) (counts : BlockCounts) (block : ℕ) → IsCounted before counts → length counts.starts ≤ block
    → counts.total ≡ before (min (8 * block) counts.seen)
all_counted before counts block counted past =
    let blocks = blocks_counted before counts counted in
    let same : counts.seen ≡ min (8 * block) counts.seen = omega (arith, blocks, past) in
    counted.total ∙ ap before same

-- where a block adds nothing to the count, no items of it do
pub none_near : (before : ℕ → ℕ) (seen first end : ℕ) → ((m n : ℕ) → m ≤ n → before m ≤ before n) → first < end → end ≤ 8 * (first / 8 + 1)
    → end ≤ seen → before (min (8 * (first / 8)) seen) ≡ before (min (8 * (first / 8 + 1)) seen) → before end ≡ before first
none_near before seen first end rising some within inside same =
    let start = rising (min (8 * (first / 8)) seen) first (omega arith) in
    let next = rising first end (omega arith) in
    let last = rising end (min (8 * (first / 8 + 1)) seen) (omega arith) in
    omega (arith, start, next, last, same)

-- if any item is offered, there is a block
pub some_block : (before : ℕ → ℕ) (counts : BlockCounts) (place : ℕ) → before 0 ≡ 0 → IsCounted before counts → place < counts.total
    → 0 < length counts.starts
some_block before counts place none counted inside = elim (cases_lt 0 counts.seen) [
  | inl h ↦ let blocks = blocks_counted before counts counted in omega (arith, blocks, h)
  | inr h ↦
      let unread : counts.seen ≡ 0 = omega (arith, h) in
      let nothing : counts.total ≡ 0 = counted.total ∙ ap before unread ∙ none in
      absurd (omega (arith, nothing, inside))
]

-- nothing is counted before the first block
pub first_start : (before : ℕ → ℕ) (counts : BlockCounts) → before 0 ≡ 0 → IsCounted before counts → 0 < length counts.starts
    → get_or counts.starts 0 0 ≡ 0
first_start before counts none counted inside = block_counted before counts 0 counted inside ∙ none

-- counts of what is offered, where as much is offered up to each item read
pub counted_alike : (before after : ℕ → ℕ) (counts : BlockCounts) → ((n : ℕ) → n ≤ counts.seen → before n ≡ after n)
    → IsCounted before counts → IsCounted after counts
counted_alike before after counts same counted = record {
  total = counted.total ∙ same counts.seen (omega arith);
  starts = fill_by_all (λ block. after (8 * block)) counts.starts ((counts.seen + 7) / 8) 0 (blocks_counted before counts counted)
      (λ block inside.
      let blocks = blocks_counted before counts counted in
      block_counted before counts block counted (omega (arith, blocks, inside)) ∙ same (8 * block) (omega (arith, inside)));
}
