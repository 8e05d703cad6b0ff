use Rattle.smith_draw_contents.proofs.Common.{refl, seen_by, true, ◌∙◌}
use Rattle.smith_draw_contents.proofs.OffsetGlobalLemmas.{offset_tell}
use Rattle.smith_draw_contents.proofs.offset_globals.OffsetGlobals.new.Goals as goal

pub returns-clause-exact : goal.returns-clause-exact
returns-clause-exact c = c.read_globals-globals.ensures.exact c.args.wide

pub returns-clause-tell : goal.returns-clause-tell
returns-clause-tell c =
    rw (c.read_globals-globals.ensures.exact c.args.wide) (offset_tell c.args.config.now (seen_by c.args.config.now c.args.spaces.now true)
    c.args.wide c.requires.types.orderly)

pub returns-clause-none : goal.returns-clause-none
returns-clause-none c = λ on. c.read_globals-globals.ensures.exact c.args.wide ∙ rw on refl
