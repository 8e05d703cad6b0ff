use Rattle.smith_draw_contents.specs.DataSegments.{HasPages}
use Rattle.smith_draw_contents.specs.DataTargets.{StandsIn}
use Rattle.smith_draw_contents.proofs.DataSegmentLemmas.{chosen_keeps, active_fit}
use Rattle.smith_draw_contents.proofs.data.draw_active.Goals as goal

pub draw_offset-offset-requires : goal.draw_offset-offset-requires
draw_offset-offset-requires c = chosen_keeps HasPages c.args.targets.now.memories c.args.u.now c.requires.some c.requires.pages
    c.choose-memory_index.ensures.exact

pub returns-clause-fit : goal.returns-clause-fit
returns-clause-fit c = λ context memories targets.
    active_fit (chosen_keeps (StandsIn memories) c.args.targets.now.memories c.args.u.now c.requires.some targets.stand
    c.choose-memory_index.ensures.exact)
    (c.draw_offset-offset.ensures.valid context (rw c.globals_for-globals.ensures (targets.globals _)))
    (λ on. c.draw_offset-offset.ensures.inside on (rw c.globals_for-globals.ensures (targets.none on _)))
