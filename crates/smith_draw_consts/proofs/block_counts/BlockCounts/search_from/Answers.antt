use Rattle.smith_draw_consts.proofs.Common.{ap, arith, get_or, length, List, ℕ, ◌*◌, ◌∙◌, ◌≡◌}
use Rattle.smith_draw_consts.proofs.BlockCountLemmas.{block_counted, blocks_counted, first_start, some_block}
use Rattle.smith_draw_consts.proofs.block_counts.BlockCounts.search_from.Goals as goal

pub block_of-block-requires-clause-some : goal.block_of-block-requires-clause-some
block_of-block-requires-clause-some c =
    omega (
      arith,
      ap length c.as_slice-starts.ensures,
      some_block c.requires.0 c.args.self.now c.args.place c.requires.1 c.requires.2
          c.if-place-self.false,
    )

pub block_of-block-requires-clause-first : goal.block_of-block-requires-clause-first
block_of-block-requires-clause-first c =
    let some = some_block c.requires.0 c.args.self.now c.args.place c.requires.1 c.requires.2 c.if-place-self.false in
    let first = ap (λ (xs : List ℕ). get_or xs 0 0) c.as_slice-starts.ensures ∙ first_start c.requires.0 c.args.self.now c.requires.1
    c.requires.2 some in
    omega (arith, first)

pub returns-clause-index : goal.returns-clause-index
returns-clause-index c =
    let blocks = blocks_counted c.requires.0 c.args.self.now c.requires.2 in
    omega (arith, blocks, ap length c.as_slice-starts.ensures, c.block_of-block.ensures.inside)

pub returns-clause-place : goal.returns-clause-place
returns-clause-place c = λ before none counted.
    let block = c.block_of-block.result in
    let same : get_or c.as_slice-starts.result.now block 0 ≡ get_or c.args.self.now.starts block 0 =
    ap (λ (xs : List ℕ). get_or xs block 0) c.as_slice-starts.ensures in
    let start = block_counted before c.args.self.now block counted
    (omega (arith, ap length c.as_slice-starts.ensures, c.block_of-block.ensures.inside)) in
    let here : before (block * 8) ≡ before (8 * block) = ap before (omega arith) in
    omega (arith, same, start, here, c.block_of-block.ensures.reached)
