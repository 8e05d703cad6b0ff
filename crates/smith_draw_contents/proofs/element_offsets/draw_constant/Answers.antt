use Rattle.smith_draw_contents.proofs.ElementOffsetLemmas.{constant_placed}
use Rattle.smith_draw_contents.proofs.element_offsets.draw_constant.Goals as goal

pub returns-clause-placed : goal.returns-clause-placed
returns-clause-placed c = λ context.
    constant_placed c.args.config.now context c.args.table.now _ _ _ _ c.arbitrary_offset-offset.ensures.within
    c.most_offset-most.ensures.exact (c.constant_offset.ensures.valid context) c.constant_offset.ensures.inside
    c.draw_hint-hint.ensures.inside
