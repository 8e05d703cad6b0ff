use Rattle.smith_draw_contents.proofs.Common.{IsUngrounded, of_drawn, Ref, RefType, standing_in}
use Rattle.smith_draw_contents.specs.DrawnElements.{HasUngroundedElements}
use Rattle.smith_draw_contents.proofs.ElementItemLemmas.{item_type_may, item_type_fits, item_type_needed}
use Rattle.smith_draw_contents.proofs.element_items.draw_item_type.Goals as goal

pub returns-clause-may : goal.returns-clause-may
returns-clause-may c = of_drawn _ (rw c.requires.standing at c.draw_type_for.ensures)
    (item_type_may c.args.config.now c.args.spaces.now c.args.choice c.args.u.now c.requires.may c.requires.offered)

pub returns-clause-fits : goal.returns-clause-fits
returns-clause-fits c = of_drawn _ (rw c.requires.standing at c.draw_type_for.ensures)
    (item_type_fits c.args.config.now (standing_in c.args.config.now c.args.spaces.now) c.args.choice c.args.u.now)

pub returns-clause-needed : goal.returns-clause-needed
returns-clause-needed c =
    let config = c.args.config.now in
    let context = standing_in config c.args.spaces.now in
    of_drawn (λ (ty : RefType). IsUngrounded config context (Ref ty)
    → HasUngroundedElements config context c.args.spaces.now.entities.tables.now) (rw c.requires.standing at c.draw_type_for.ensures)
    (item_type_needed config context c.args.spaces.now.entities.tables.now c.args.choice c.args.u.now c.requires.may.standing.types.orderly
    c.requires.offered)
