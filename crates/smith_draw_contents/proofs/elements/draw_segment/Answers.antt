use Rattle.smith_draw_contents.proofs.Common.{arith, chosen_of, drawn_is, Elements, refused_with, seen_by, standing_in, true}
use Rattle.smith_draw_consts.proofs.ConstStepLemmas.{passed_on}
use Rattle.smith_draw_contents.specs.DrawnElements.{IsKindOffered}
use Rattle.smith_draw_contents.specs.declared.element_kinds.KindChoice.TheVariants.{Passive}
use Rattle.smith_draw_contents.proofs.ElementFitLemmas.{element_fit}
use Rattle.smith_draw_contents.proofs.ElementItemLemmas.{fits_addresses, segment_refused}
use Rattle.smith_draw_consts.proofs.TriedStepLemmas.{memory_open}
use Rattle.smith_draw_contents.proofs.ElementsLoop.{segment_drawn, segment_not_drawn}
use Rattle.smith_draw_contents.proofs.elements.draw_segment.Goals as goal

pub draw_item_type-requires-clause-offered : goal.draw_item_type-requires-clause-offered
draw_item_type-requires-clause-offered c =
    let Offered = IsKindOffered c.args.config.now c.args.spaces.now.types.now.types c.args.spaces.now.entities.tables.now in
    drawn_is Offered _ (chosen_of Offered Passive c.args.kinds.now c.args.u.now c.requires.some c.requires.offered)
    c.choose-choice.ensures.exact

pub draw_kind-kind-requires-clause-fits : goal.draw_kind-kind-requires-clause-fits
draw_kind-kind-requires-clause-fits c =
    let Offered = IsKindOffered c.args.config.now c.args.spaces.now.types.now.types c.args.spaces.now.entities.tables.now in
    fits_addresses c.args.config.now c.args.spaces.now _
    (drawn_is Offered _ (chosen_of Offered Passive c.args.kinds.now c.args.u.now c.requires.some c.requires.offered)
    c.choose-choice.ensures.exact)

pub returns-clause-fit : goal.returns-clause-fit
returns-clause-fit c =
    let Offered = IsKindOffered c.args.config.now c.args.spaces.now.types.now.types c.args.spaces.now.entities.tables.now in
    let offered = drawn_is Offered _ (chosen_of Offered Passive c.args.kinds.now c.args.u.now c.requires.some c.requires.offered)
    c.choose-choice.ensures.exact in
    let items = c.in_ok-items.ensures in
    element_fit c.args.config.now c.args.spaces.now _ _ _ _ _ c.args.total offered c.draw_kind-kind.ensures.placed c.in_ok-ty.ensures.may
    c.in_ok-ty.ensures.fits items.fit (rw c.most_items-most.ensures.exact at items.few) c.in_ok-ty.ensures.needed

pub returns-in_err-ty-clause-exact : goal.returns-in_err-ty-clause-exact
returns-in_err-ty-clause-exact c = memory_open _ _ _ c.from_residual.result c.in_err-ty.ensures.draws.memory c.from_residual.ensures.1

pub returns-in_err-items-clause-exact : goal.returns-in_err-items-clause-exact
returns-in_err-items-clause-exact c =
    refused_with {X = Elements} (λ items. (items, c.draw_items.new.u)) _ c.in_err-items.field-0.0 _ _ c.from_residual-in_err-items.result
    c.in_err-items.ensures.exact
    (λ refused. segment_not_drawn c.args.config.now (seen_by c.args.config.now c.args.spaces.now true) c.args.kinds.now c.args.total
    c.args.u.now c.choose-choice.ensures.exact c.draw_kind-kind.ensures.draws.exact c.in_ok-ty.ensures.draws.exact
    c.most_items-most.ensures.exact refused)
    c.from_residual-in_err-items.ensures.1

pub returns-in_err-items-clause-refusal : goal.returns-in_err-items-clause-refusal
returns-in_err-items-clause-refusal c =
    passed_on _ c.from_residual-in_err-items.result c.in_err-items.field-0.0 c.from_residual-in_err-items.ensures.1
    (segment_refused c.args.config.now (standing_in c.args.config.now c.args.spaces.now) c.args.spaces.now.entities.tables.now c.in_ok-ty.ty
    _ c.in_ok-ty.ensures.needed c.in_err-items.ensures.refusal)

pub returns-clause-exact : goal.returns-clause-exact
returns-clause-exact c = segment_drawn c.args.config.now (seen_by c.args.config.now c.args.spaces.now true) c.args.kinds.now c.args.total
    c.args.u.now c.choose-choice.ensures.exact c.draw_kind-kind.ensures.draws.exact c.in_ok-ty.ensures.draws.exact
    c.most_items-most.ensures.exact c.in_ok-items.ensures.exact

pub returns-clause-within : goal.returns-clause-within
returns-clause-within c = omega (arith, c.in_ok-items.ensures.few, c.most_items-most.ensures.within)

pub returns-clause-left : goal.returns-clause-left
returns-clause-left c = λ whole h. c.draw_items.ensures.left whole
    (c.draw_item_type.ensures.draws.left whole (c.draw_kind-kind.ensures.draws.left whole (c.choose-choice.ensures.left whole h)))
