use Rattle.smith_draw_consts.specs.ConstScopes.{seen_by}
use Rattle.smith_draw_consts.proofs.ReadableLemmas.{listed_readable}
use Rattle.smith_draw_consts.proofs.draws.globals_for_const_expr.Goals as goal

pub returns-clause-readable : goal.returns-clause-readable
returns-clause-readable c =
    let end = c.visible_end-visible.ensures in
    listed_readable (seen_by c.args.config.now c.args.spaces.now c.args.allow_defined) c.types-types.ensures.sound.orderly c.args.wanted
    c.loop-index.readable c.loop-index.index (rw end at c.loop-index-test.false) (rw end at c.loop-index.invariant)
