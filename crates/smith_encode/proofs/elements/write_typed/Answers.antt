use Rattle.smith_encode.proofs.Common.{items_view, on_ok_weaker}
use Rattle.smith_encode.specs.Spelled.{are_items_nested}
use Rattle.smith_encode.proofs.ItemLemmas.{typed_written}
use Rattle.smith_encode.proofs.elements.write_typed.Goals as goal

pub returns-clause-writes : goal.returns-clause-writes
returns-clause-writes c = on_ok_weaker c.write_exprs.result
    (typed_written c.args.ty (items_view c.args.items.now) (are_items_nested c.args.items.now) c.in_ok-encode.ensures.writes)
    c.write_exprs.ensures.writes
