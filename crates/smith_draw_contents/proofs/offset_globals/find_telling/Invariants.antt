use Rattle.smith_draw_contents.proofs.Common.{drop, get_or, ◌≡◌}
use Rattle.smith_draw_contents.specs.OffsetGlobals.{telling_from}
use Rattle.smith_draw_contents.proofs.offset_globals.find_telling.Given as goal

abbrev pub invariant-loop-index : goal.invariant-loop-index
invariant-loop-index l = get_or (telling_from l.wide l.index (drop l.index l.globals)) l.left 0 ≡ get_or (telling_from l.wide 0 l.globals)
    l.place 0
