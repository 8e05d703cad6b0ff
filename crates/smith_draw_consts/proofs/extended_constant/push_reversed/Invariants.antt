use Rattle.smith_draw_consts.proofs.Common.{length, reverse, take, ◌++◌, ◌-◌, ◌≡◌}
use Rattle.smith_draw_consts.proofs.extended_constant.push_reversed.Given as goal

abbrev pub invariant-loop-index : goal.invariant-loop-index
invariant-loop-index l = l.out ++ reverse (take (length l.drawn - l.index) l.drawn) ≡ l.fn.out ++ reverse l.drawn
