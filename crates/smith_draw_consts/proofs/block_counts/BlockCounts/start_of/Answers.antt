use Rattle.smith_draw_consts.proofs.Common.{ap, arith, get_or, length, ◌∙◌}
use Rattle.smith_draw_consts.proofs.BlockCountLemmas.{all_counted, start_counted}
use Rattle.smith_draw_consts.proofs.block_counts.BlockCounts.start_of.Goals as goal

pub returns-then-block-starts : goal.returns-then-block-starts
returns-then-block-starts c = λ before counted.
    let same = c.as_slice-starts.ensures in
    ap (λ xs. get_or xs c.args.block 0) same ∙ start_counted before c.args.self.now c.args.block counted
    (omega (arith, ap length same, c.if-block-starts.true))

pub returns : goal.returns
returns c = λ before counted. all_counted before c.args.self.now c.args.block counted
    (omega (arith, ap length c.as_slice-starts.ensures, c.if-block-starts.false))
