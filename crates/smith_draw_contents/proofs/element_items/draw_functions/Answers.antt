use Rattle.smith_draw_contents.proofs.Common.{Error, IfOk, List, Result, returned, seen_by, subst, true, ℕ}
use Rattle.smith_types.specs.Syntax.segments.Elements.TheVariants.{Functions}
use Rattle.smith_draw_contents.specs.DrawnElements.{AreItemsFit}
use Rattle.smith_draw_contents.proofs.ElementFunctionLemmas.{functions_fit}
use Rattle.smith_draw_contents.proofs.element_items.draw_functions.Goals as goal

pub returns-clause-fit : goal.returns-clause-fit
returns-clause-fit c = λ ty plain.
    let config = c.args.config.now in
    let context = seen_by config c.args.spaces.now true in
    returned _ (λ (items : List ℕ). AreItemsFit config context ty (Functions items)) c.draw_unshared.result
    (λ items read. subst (λ (r : Result (List ℕ × List ℕ) Error). IfOk r (λ drawn. AreItemsFit config context ty (Functions drawn.0))) read
    (functions_fit config context ty c.args.most c.args.u.now c.requires.funcs plain))
    c.draw_unshared.ensures.exact
