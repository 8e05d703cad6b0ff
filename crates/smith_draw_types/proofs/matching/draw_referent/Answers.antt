use Rattle.smith_draw_types.proofs.Common.{sym, ◌∙◌}
use Rattle.smith_draw_types.proofs.ChosenLemmas.{all_are_offered, grounded_are_offered}
use Rattle.smith_draw_types.proofs.matching.draw_referent.Goals as goal

pub returns-then-are_all_offered : goal.returns-then-are_all_offered
returns-then-are_all_offered c =
    rw (all_are_offered c.args.config.now c.args.standing.now c.args.ty c.args.u.now
    (sym c.are_all_offered.ensures ∙ c.if-are_all_offered.true)) (rw c.types.ensures at c.draw_matching_heap_type.ensures)

pub returns : goal.returns
returns c = record {
  exact = grounded_are_offered c.args.config.now c.args.standing.now c.args.ty c.args.u.now
      (sym c.are_all_offered.ensures ∙ c.if-are_all_offered.false) ∙ c.draw_grounded_heap_type.ensures.exact;
  memory = tt;
  left = c.draw_grounded_heap_type.ensures.left;
}
