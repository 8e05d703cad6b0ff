use Rattle.smith_draw_contents.proofs.Common.{length, List, of_drawn, ℕ, ◌≤◌}
use Rattle.smith_draw_contents.proofs.ElementItemLemmas.{functions_few}
use Rattle.smith_draw_contents.proofs.element_items.draw_unshared.Goals as goal

pub returns-clause-few : goal.returns-clause-few
returns-clause-few c = of_drawn (λ (items : List ℕ). length items ≤ c.args.most) c.choose_functions.ensures
    (functions_few c.args.config.now _ c.args.most _)
