use Rattle.smith_draw_contents.proofs.Common.{seen_by, true}
use Rattle.smith_draw_contents.proofs.ElementOffsetLemmas.{global_placed}
use Rattle.smith_draw_contents.proofs.element_offsets.draw_table_offset.Goals as goal

pub returns-clause-placed : goal.returns-clause-placed
returns-clause-placed c =
    global_placed c.args.config.now (seen_by c.args.config.now c.args.spaces.now true) c.args.table.now _ c.new-globals.ensures.tell
    c.new-globals.ensures.none
    (rw c.len.ensures at c.is_global_wanted.ensures.some c.if-not-is_global_wanted.false) c.choose.ensures.exact

pub returns-then-not-is_global_wanted-clause-placed : goal.returns-then-not-is_global_wanted-clause-placed
returns-then-not-is_global_wanted-clause-placed c = c.draw_constant.ensures.placed (seen_by c.args.config.now c.args.spaces.now true)
