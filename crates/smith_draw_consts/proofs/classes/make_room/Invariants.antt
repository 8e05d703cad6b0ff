use Rattle.smith_draw_consts.proofs.Common.{◌+◌, ◌-◌}
use Rattle.std.proofs.Common.{vec_len}
use Rattle.smith_draw_consts.proofs.classes.make_room.Given as goal

abbrev pub decreases-loop-hints : goal.decreases-loop-hints
decreases-loop-hints l = l.slot + 1 - vec_len l.hints
