use Rattle.smith_draw_contents.proofs.Common.{ConstInstr, Error, IfOk, length, List, Result, returned, seen_by, subst, true, ℕ, ◌≤◌}
use Rattle.smith_draw_contents.proofs.ElementFitLemmas.{expressions_fit}
use Rattle.smith_draw_contents.proofs.ElementItemLemmas.{expressions_few}
use Rattle.smith_draw_contents.proofs.element_items.draw_expressions.Goals as goal

pub draw_each_expression-drawn-requires-clause-kept : goal.draw_each_expression-drawn-requires-clause-kept
draw_each_expression-drawn-requires-clause-kept c = c.new-kept.ensures _

pub returns-clause-few : goal.returns-clause-few
returns-clause-few c =
    let few = expressions_few c.args.config.now (seen_by c.args.config.now c.args.spaces.now true) c.args.ty c.args.most _ in
    returned _ (λ (items : List (List ConstInstr)). length items ≤ c.args.most) c.draw_each_expression-drawn.result
    (λ items read. subst (λ (r : Result (List (List ConstInstr) × List ℕ) Error). IfOk r (λ made. length made.0 ≤ c.args.most)) read few)
    c.draw_each_expression-drawn.ensures.exact

pub returns-clause-fit : goal.returns-clause-fit
returns-clause-fit c =
    let drawn = c.draw_each_expression-drawn.ensures in
    expressions_fit c.args.config.now (seen_by c.args.config.now c.args.spaces.now true) c.args.ty c.args.most _ _
    c.draw_each_expression-drawn.result c.requires.references c.in_ok-ask_enough.ensures.enough drawn.exact drawn.typed drawn.floats
