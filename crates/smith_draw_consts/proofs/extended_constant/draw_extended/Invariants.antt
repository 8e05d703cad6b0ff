use Rattle.smith_draw_consts.proofs.Common.{length, ◌-◌}
use Rattle.smith_draw_consts.proofs.ExtendedLemmas.{IsExtending}
use Rattle.smith_draw_consts.proofs.extended_constant.draw_extended.Given as goal

abbrev pub invariant-loop-needed : goal.invariant-loop-needed
invariant-loop-needed l = IsExtending l.wanted l.wide l.needed l.drawn l.fn.u l.u

abbrev pub decreases-loop-needed : goal.decreases-loop-needed
decreases-loop-needed l = 23 - length l.drawn
