use Rattle.smith_draw_contents.proofs.ElementFunctionLemmas.{functions_listed}
use Rattle.smith_draw_contents.proofs.element_items.draw_items.Goals as goal

pub returns-then-are_functions-clause-fit : goal.returns-then-are_functions-clause-fit
returns-then-are_functions-clause-fit c =
    c.in_ok-draw_functions.ensures.fit c.args.ty (functions_listed c.args.config.now c.args.ty _ _ _ c.requires.may.enabled
    c.are_functions.ensures.draws.exact c.if-are_functions.true)
