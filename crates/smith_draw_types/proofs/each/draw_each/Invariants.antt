use Rattle.smith_draw_types.proofs.EachLoop.{IsDrawing}
use Rattle.smith_draw_types.proofs.each.draw_each.Given as goal

abbrev pub invariant-loop-item : goal.invariant-loop-item
invariant-loop-item g l = IsDrawing (g.R.Replacement.draw_at l.replacement) l.items l.item-index l.drawn l.fn.u l.u
