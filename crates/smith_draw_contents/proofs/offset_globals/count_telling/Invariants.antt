use Rattle.smith_draw_contents.proofs.OffsetGlobalLemmas.{IsCounting}
use Rattle.smith_draw_contents.proofs.offset_globals.count_telling.Given as goal

abbrev pub invariant-loop-index : goal.invariant-loop-index
invariant-loop-index l = IsCounting l.wide l.globals l.index l.count
