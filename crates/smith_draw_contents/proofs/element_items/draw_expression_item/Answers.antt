use Rattle.smith_draw_consts.proofs.TriedStepLemmas.{chosen_or_refused}
use Rattle.smith_draw_contents.specs.ElementSegments.{expression_item_at}
use Rattle.smith_draw_contents.proofs.element_items.draw_expression_item.Goals as goal

pub returns-clause-exact : goal.returns-clause-exact
unfolding expression_item_at
returns-clause-exact c = chosen_or_refused _ _ _ c.draw_const_expr.result c.draw_const_expr.ensures.exact c.draw_const_expr.ensures.none
    c.draw_const_expr.ensures.refusal
