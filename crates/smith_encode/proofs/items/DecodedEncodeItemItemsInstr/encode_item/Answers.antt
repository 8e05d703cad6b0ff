use Rattle.smith_encode.proofs.Common.{on_ok_weaker}
use Rattle.smith_encode.proofs.ItemLemmas.{expr_written}
use Rattle.smith_encode.proofs.items.DecodedEncodeItemItemsInstr.encode_item.Goals as goal

pub returns-clause-writes : goal.returns-clause-writes
returns-clause-writes c =
    on_ok_weaker c.encode_expr.result (expr_written c.args.item.now) (rw c.as_slice.ensures at c.encode_expr.ensures.writes)
