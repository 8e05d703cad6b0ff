use Rattle.smith_draw_types.proofs.CopiesLoop.{group_within}
use Rattle.smith_draw_types.proofs.rec_group.group_at.Goals as goal

pub returns-clause-ordered : goal.returns-clause-ordered
returns-clause-ordered c =
    let sound = c.types-types.ensures.sound in
    rw c.rec_groups.ensures (group_within c.args.types.now c.args.place (record { start = 0; end = 0 }) sound.consecutive sound.within
    c.requires).ordered

pub returns-clause-inside : goal.returns-clause-inside
returns-clause-inside c =
    let sound = c.types-types.ensures.sound in
    rw c.rec_groups.ensures (group_within c.args.types.now c.args.place (record { start = 0; end = 0 }) sound.consecutive sound.within
    c.requires).inside
