use Rattle.smith_body_nodes.proofs.Common.{length, refl, slice_get, Some, ◌≡◌}
use Rattle.std.proofs.lemmas.Option.{slice_get_read}
use Rattle.smith_body_nodes.proofs.ItemLemmas.{item_none, item_there}
use Rattle.smith_body_nodes.proofs.items.draw_item.Goals as goal

pub returns-in_err-index-clause-exact : goal.returns-in_err-index-clause-exact
returns-in_err-index-clause-exact g c = rw c.from_residual.ensures (item_none c.args.items.now c.args.u.now _ c.in_err-index.ensures.exact)

pub returns-clause-exact : goal.returns-clause-exact
returns-clause-exact g c =
    let there : slice_get c.args.items.now c.in_ok-index.index ≡ Some c.index-items-index.result =
    slice_get_read c.args.items.now (length c.args.items.now) c.in_ok-index.index c.index-items-index.result refl
    c.in_ok-index.ensures.below c.index-items-index.is in
    item_there c.args.items.now c.args.u.now _ c.in_ok-index.index c.index-items-index.result c.in_ok-index.ensures.exact there

pub returns-clause-there : goal.returns-clause-there
returns-clause-there g c = slice_get_read c.args.items.now (length c.args.items.now) c.in_ok-index.index c.index-items-index.result refl
    c.in_ok-index.ensures.below c.index-items-index.is
