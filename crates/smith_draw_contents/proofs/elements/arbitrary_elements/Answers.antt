use Rattle.smith_draw_contents.proofs.Common.{All-weaker, ElementSegment, Error, IfOk, IfOk-weaker, length, List, Result, returned, seen_by}
use Rattle.smith_draw_contents.proofs.Common.{standing_in, subst, true, ℕ, ◌≤◌}
use Rattle.smith_bytes.specs.declared.error.Count.TheVariants as counts
use Rattle.smith_module_rules.specs.Held.{HasItems}
use Rattle.smith_config.specs.Granted.{HasGroundedItems}
use Rattle.smith_draw_contents.specs.DrawnElements.{IsElementFit}
use Rattle.smith_draw_contents.proofs.ElementCountLemmas.{elements_least, elements_taken}
use Rattle.smith_draw_contents.proofs.ElementFitLemmas.{elements_no_float}
use Rattle.smith_draw_contents.proofs.elements.arbitrary_elements.Goals as goal

pub returns-clause-least : goal.returns-clause-least
returns-clause-least c =
    let config = c.args.config.now in
    let context = seen_by config c.args.spaces.now true in
    let tables = c.args.spaces.now.entities.tables.now in
    returned _ (λ (segments : List ElementSegment). config.min_element_segments ≤ length segments) c.draw_elements.result
    (λ segments read. subst (λ (r : Result (List ElementSegment × List ℕ) Error). IfOk r
    (λ drawn. config.min_element_segments ≤ length drawn.0)) read (elements_least config context tables c.args.u.now
    (c.requires.may.passes.ordered counts.ElementSegments tt)))
    c.draw_elements.ensures.exact

pub returns-clause-enough : goal.returns-clause-enough
returns-clause-enough c =
    let config = c.args.config.now in
    let spaces = c.args.spaces.now in
    IfOk-weaker c.draw_elements.result _ _
    (λ segments fit. All-weaker (IsElementFit config (seen_by config spaces true) spaces.entities.tables.now)
    (λ (segment : ElementSegment). HasItems config spaces.types.now.types spaces.entities.funcs.now segment.items)
    (λ segment one. one.enough) segments fit)
    c.draw_elements.ensures.fit

pub returns-clause-floats : goal.returns-clause-floats
returns-clause-floats c = λ calm. IfOk-weaker c.draw_elements.result _ _ (λ segments fit. elements_no_float calm segments fit)
    c.draw_elements.ensures.fit

pub returns-clause-grounded : goal.returns-clause-grounded
returns-clause-grounded c = λ none.
    let config = c.args.config.now in
    let spaces = c.args.spaces.now in
    IfOk-weaker c.draw_elements.result _ _
    (λ segments fit. All-weaker (IsElementFit config (seen_by config spaces true) spaces.entities.tables.now)
    (HasGroundedItems config (standing_in config spaces)) (λ segment one. one.grounded none) segments fit) c.draw_elements.ensures.fit

pub returns-clause-none : goal.returns-clause-none
returns-clause-none c = λ none empty. elements_taken c.args.config.now (seen_by c.args.config.now c.args.spaces.now true)
    c.args.spaces.now.entities.tables.now _ _ c.draw_elements.result none empty c.draw_elements.ensures.exact
