use Rattle.smith_draw_contents.proofs.Common.{refl, seen_by, true}
use Rattle.smith_draw_contents.proofs.OffsetGlobalLemmas.{telling_readable}
use Rattle.smith_draw_contents.proofs.offset_globals.read_globals.Goals as goal

pub returns-then-config-clause-exact : goal.returns-then-config-clause-exact
returns-then-config-clause-exact c = λ wide. rw c.if-config.true refl

pub returns-clause-exact : goal.returns-clause-exact
returns-clause-exact c = λ wide.
    rw (c.if-config.false, c.visible_end-visible.ensures.exact) (telling_readable (seen_by c.args.config.now c.args.spaces.now true) wide)
